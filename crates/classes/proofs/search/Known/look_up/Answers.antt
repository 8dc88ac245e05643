-- `search::Known::look_up` meets its contract: the block's class is the latest, or one before it, or one behind it, or new.
use Rattle.std.proofs.Common.{rules, ◌<◌, sym, ◌∙◌, ap, length}
use Rattle.blocks.specs.Blocks.{differences}
use Rattle.blocks.specs.Classes.{same}
use Rattle.classes.specs.Inner.Searching.{part_differences}
use Rattle.classes.proofs.Laws.Searching.{first_class, latest_known, latest_found, some_before, some_behind, none_known, found_some}
use Rattle.classes.proofs.search.Known.look_up.Goals as goal
use Rattle.classes.proofs.search.Known.look_up.Goals.{Else-known-eq0}

pub returns-then-known-eq0 : goal.returns-then-known-eq0
returns-then-known-eq0 c = first_class c.args.self.now.known c.args.values.now c.if-known-eq0.true

-- The latest class is known where any is.
some : (c : Else-known-eq0) → c.args.self.now.latest < length c.args.self.now.firsts.now
some c = latest_known c.args.self.now.known c.args.values.now c.if-known-eq0.false

pub returns-then-same_differences : goal.returns-then-same_differences
returns-then-same_differences c =
    latest_found c.args.self.now.known c.args.values.now c.if-known-eq0.false (ap (λ p. same (differences p) (differences c.args.values.now)) (sym c.first_block.ensures) ∙ sym c.same_differences.ensures ∙ c.if-same_differences.true)

pub overflow_add-result : goal.overflow_add-result
overflow_add-result c =
    let l = some (goal.at.overflow_add-result c).Else-known-eq0 in
    let f = found_some (part_differences c.args.self.now.table.now c.args.self.now.size c.args.self.now.firsts.now) (differences c.args.values.now) 0 c.args.self.now.latest c.in-Some.class (sym c.find_between.ensures ∙ c.in-Some.is) in
    search rules

pub returns-in-Some : goal.returns-in-Some
returns-in-Some c = some_before c.args.self.now.known c.args.values.now c.if-known-eq0.false c.in-Some.class (sym c.find_between.ensures ∙ c.in-Some.is)

pub overflow_add-result-in-Some-find_between : goal.overflow_add-result-in-Some-find_between
overflow_add-result-in-Some-find_between c =
    let f = found_some (part_differences c.args.self.now.table.now c.args.self.now.size c.args.self.now.firsts.now) (differences c.args.values.now) _ _ c.in-Some-find_between.class (sym c.find_between-2.ensures ∙ c.in-Some-find_between.is) in
    search rules

pub returns-in-Some-find_between : goal.returns-in-Some-find_between
returns-in-Some-find_between c = some_behind c.args.self.now.known c.args.values.now c.if-known-eq0.false c.in-Some-find_between.class (sym c.find_between-2.ensures ∙ c.in-Some-find_between.is)

pub returns : goal.returns
returns c =
    none_known c.args.self.now.known c.args.values.now c.if-known-eq0.false
    (ap (λ p. same (differences p) (differences c.args.values.now)) (sym c.first_block.ensures) ∙ sym c.same_differences.ensures ∙ c.if-same_differences.false)
    (sym c.find_between.ensures ∙ c.in_default.is)
    (sym c.find_between-2.ensures ∙ c.in_default-find_between.is)
