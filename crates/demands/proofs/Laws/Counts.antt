-- Build's node count, and the bound where no step jumps.
use Rattle.std.specs.Prelude.{ℕ, ◌^◌, ◌+◌, ◌-◌, ◌≡◌, List, length, ℤ, pos, neg_ℤ, ◌+ℤ◌, ◌-ℤ◌, ◌*ℤ◌}
use Rattle.std.proofs.Common.{sym, ◌∙◌, ap, one-mul, add-one}
use Rattle.numbers.specs.Answers.{accepted}
use Rattle.diagram.specs.Bound.{jumps, rising_kinds, node_bound}
use Rattle.diagram.specs.Build.{build_answer, Summary}
use Rattle.diagram.specs.Records.{records, node_count}
use Rattle.diagram.proofs.Theorems as diagrams

pub built_nodes : (n : ℕ) (table : List ℤ) (room : ℕ) (s : Summary) → build_answer n table room ≡ accepted s → s.nodes ≡ length (records n table) + 1
unfolding node_count
built_nodes n table room s built = ap (λ t. t.nodes) (diagrams.build_answers n table room s built) ∙ sym (add-one (length (records n table)))

less_one_times : (l : ℕ) → (pos 0 -ℤ pos 1) *ℤ pos l ≡ neg_ℤ (pos l)
less_one_times l = ap (λ k. neg_ℤ (pos k)) (one-mul l)

pub bound_without_jumps : (n : ℕ) (table : List ℤ) (p l : ℕ) → jumps n table p ≡ 0 → node_bound n table p l ≡ pos (2 ^ (n - l) + rising_kinds p l) +ℤ neg_ℤ (pos l)
unfolding node_bound
bound_without_jumps n table p l e =
    ap (λ k. pos (2 ^ (n - l) + rising_kinds p l) +ℤ (pos k -ℤ pos 1) *ℤ pos l) e
    ∙ ap (λ z. pos (2 ^ (n - l) + rising_kinds p l) +ℤ z) (less_one_times l)
