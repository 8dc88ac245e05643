-- The classes of blocks on the way: what is known before a block, and that the class of the block just before is.
use Rattle.std.specs.Prelude.{ℕ, zero, suc, ◌-◌, ◌≤◌, ◌<◌, ◌≡◌, refl, List, [], length, get_or, take, ℤ}
use Rattle.std.proofs.Common.{sym, ◌∙◌, ap₂, arith, get_or-take, length-take-le, take-take}
use Rattle.blocks.specs.Classes.{number_in, learn_all, distinct}
use Rattle.blocks.proofs.Laws.Known.{number_le, number_when_met, distinct_known}
use Rattle.blocks.specs.Tries.{block_class, known_before}

-- Nothing is known before the first block.
pub none_before : (ds : List (List ℤ)) → known_before ds 0 ≡ 0
unfolding known_before distinct learn_all
none_before ds = refl

-- A class is one of those known, or the next new one.
pub class_met : (ds : List (List ℤ)) (j : ℕ) → j < length ds → block_class ds j ≡ number_in (distinct (take j ds)) (get_or ds j [])
unfolding block_class
class_met ds j below = number_when_met ds j below

pub class_most : (ds : List (List ℤ)) (j : ℕ) → j < length ds → block_class ds j ≤ known_before ds j
unfolding known_before
class_most ds j below = rw (class_met ds j below) (number_le (distinct (take j ds)) (get_or ds j []))

-- The class of a block is known before every later one,
pub known_since : (ds : List (List ℤ)) (before j : ℕ) → before < j → j ≤ length ds → block_class ds before < known_before ds j
unfolding known_before
known_since ds before j later below =
    let seen = take j ds in
    let inside : before < length seen = rw (length-take-le j ds below) later in
    let same : number_in (distinct seen) (get_or seen before []) ≡ block_class ds before =
    number_when_met seen before inside
    ∙ ap₂ (λ s d. number_in (distinct s) d) (take-take before j ds (omega arith)) (get_or-take j ds before [] later)
    ∙ sym (class_met ds before (omega arith)) in
    let l = distinct_known seen before inside in
    omega arith

-- and so before the next.
pub latest_before_lem : (ds : List (List ℤ)) (before : ℕ) → before < length ds → block_class ds before < known_before ds (suc before)
latest_before_lem ds before below = known_since ds before (suc before) (omega arith) (omega arith)

-- The latest class is known where any class is.
pub latest_known : (ds : List (List ℤ)) (j : ℕ) → j < length ds → 0 < known_before ds j → block_class ds (j - 1) < known_before ds j
latest_known ds zero below some = absurd (let e = none_before ds in omega arith)
latest_known ds (suc before) below some = rw (let e : suc before - 1 ≡ before = omega arith in e) (latest_before_lem ds before (omega arith))
