-- An image is accepted in one way at most, with the commands that the reader finds: so a type may say of its image that it is accepted.
use Rattle.std.specs.Prelude.{ℕ, List, [], ◌≡◌, ◌⊎◌}
use Rattle.std.specs.Coded.{Coded, Coded-set, code_by, coded_list, coded_ℕ, coded⊎}
use Rattle.std.proofs.Common.{inl, inr, refl, sym, ap, ◌∙◌}
use mathlib.Core.HLevel.{is_prop→PathP}
use Rattle.numbers.specs.Answers.{Answer, accepted, refused}
use Rattle.image.specs.Inner.Evaluation.{Accepted}
use Rattle.image.specs.Reader.{reading}
use Rattle.image.specs.contracts.Command as command
use Rattle.image.specs.declared.Command.{Command}

-- An answer with commands, as one of two.
abbrev split : Answer (List Command) → List Command ⊎ ℕ
split (accepted commands) = inl commands
split (refused number) = inr number

abbrev join : List Command ⊎ ℕ → Answer (List Command)
join (inl commands) = accepted commands
join (inr number) = refused number

join_split : (answer : Answer (List Command)) → join (split answer) ≡ answer
join_split (accepted commands) = refl
join_split (refused number) = refl

-- So two such answers are equal in one way at most.
coded_answer : Coded (Answer (List Command))
coded_answer = code_by (List Command ⊎ ℕ) (coded⊎ (coded_list (command.the_row).coded) coded_ℕ) split join join_split

-- The commands of an answer; none of a refusal.
abbrev commands_in : Answer (List Command) → List Command
commands_in (accepted commands) = commands
commands_in (refused number) = []

-- Two proofs that an image is accepted are the same.
pub Accepted-prop : (image : List ℕ) → IsProp (Accepted image)
Accepted-prop image a b =
    let same : a.commands ≡ b.commands = ap commands_in (sym a.read ∙ b.read) in
    λ i. record { commands = same i; read = is_prop→PathP (λ j. reading image ≡ accepted (same j)) (λ j. Coded-set coded_answer _ _) a.read b.read i }
