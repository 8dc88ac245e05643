-- Build's and Walk's answers, known by cases, are what comes back through C.
use Rattle.std.specs.Prelude.{ℕ, ◌≡◌, List, ℤ, Result, Ok, Err}
use Rattle.std.proofs.Common.{sym, ◌∙◌, ap}
use Rattle.numbers.specs.Answers.{Answer}
use Rattle.numbers.specs.Refusals.{number, answer_of}
use Rattle.numbers.specs.declared.Refusal.{Refusal}
use Rattle.diagram.specs.Build.{built, Builds}
use Rattle.diagram.specs.Walk.{walk}
use Rattle.diagram.specs.declared.Built.{Built}
use Rattle.exports.specs.Results.{result_of, left_behind}
use Rattle.exports.specs.DiagramGiven.{BuildGiven, WalkGiven}

pub build_given : (n : ℕ) (table nodes : List ℤ) (count : ℕ) (offset : ℤ) (r : Result Built Refusal) (nodes' : List ℤ) → Builds n table nodes r nodes' → BuildGiven n table nodes count offset (result_of (built r)) nodes' (left_behind (built r) (λ s. s.nodes) count) (left_behind (built r) (λ s. s.table_offset) offset)
build_given n table nodes count offset r nodes' builds =
    record {
      answered = ap result_of builds.answered;
      recorded = builds.left;
      counted = ap (λ a. left_behind a (λ s. s.nodes) count) builds.answered;
      valued = ap (λ a. left_behind a (λ s. s.table_offset) offset) builds.answered;
    }

-- A diagram comes back.
pub build_accepted : {n : ℕ} {table nodes nodes' : List ℤ} {count : ℕ} {offset offset' : ℤ} {diagram : Built} {r : Result Built Refusal} → Builds n table nodes r nodes' → r ≡ Ok diagram → offset' ≡ diagram.offset → BuildGiven n table nodes count offset 0 nodes' diagram.nodes offset'
unfolding built answer_of
build_accepted {diagram} builds is e = rw e (build_given _ _ _ _ _ (Ok diagram) _ (rw is at builds))

-- A refusal leaves both references as they were.
pub build_refused : {n : ℕ} {table nodes nodes' : List ℤ} {count result : ℕ} {offset : ℤ} {refusal : Refusal} {r : Result Built Refusal} → Builds n table nodes r nodes' → r ≡ Err refusal → result ≡ number refusal → BuildGiven n table nodes count offset result nodes' count offset
unfolding built answer_of
build_refused {refusal} builds is e = rw e (build_given _ _ _ _ _ (Err refusal) _ (rw is at builds))

pub walk_given : (n : ℕ) (offset : ℤ) (records : List ℤ) (x : ℕ) (value : ℤ) (answer : Answer ℤ) → walk n offset records x ≡ answer → WalkGiven n offset records x value (result_of answer) (left_behind answer (λ v. v) value)
walk_given n offset records x value answer e = record { answered = ap result_of (sym e); valued = ap (λ a. left_behind a (λ v. v) value) (sym e) }

-- A value comes back.
pub walk_accepted : {n x : ℕ} {offset value value' found : ℤ} {records : List ℤ} {r : Result ℤ Refusal} → answer_of r ≡ walk n offset records x → r ≡ Ok found → value' ≡ found → WalkGiven n offset records x value 0 value'
unfolding answer_of
walk_accepted {found} w is e = rw e (walk_given _ _ _ _ _ (answer_of (Ok found)) (sym w ∙ ap answer_of is))

-- A refusal leaves the value as it was.
pub walk_refused : {n x result : ℕ} {offset value : ℤ} {records : List ℤ} {refusal : Refusal} {r : Result ℤ Refusal} → answer_of r ≡ walk n offset records x → r ≡ Err refusal → result ≡ number refusal → WalkGiven n offset records x value result value
unfolding answer_of
walk_refused {refusal} w is e = rw e (walk_given _ _ _ _ _ (answer_of (Err refusal)) (sym w ∙ ap answer_of is))
