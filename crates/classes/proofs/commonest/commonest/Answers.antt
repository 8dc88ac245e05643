-- `commonest::commonest` meets its contract. The loop's invariant: the class leads among the counts so far.
use Rattle.std.proofs.Common.{◌≡◌, ◌+◌, [], ◌∷◌, ◌++◌, sym, ◌∙◌, ap, subst, arith, add-one, length, get_or, take, take-suc, length-take-le}
use Rattle.std.proofs.Math.Seq.{take-length}
use Rattle.blocks.proofs.Laws.Commonest.{Leading, leading_is, greater_leads, other_stays}
use Rattle.classes.proofs.commonest.commonest.Goals as goal
use Rattle.classes.proofs.commonest.commonest.Goals.{then-common-uses, else-common-uses}

pub loop-class-preserved : goal.loop-class-preserved
loop-class-preserved c =
    let counts = c.args.use_counts.now in
    let k = c.loop-class.class in
    let t = c.loop-class-test.true in
    let longer : take k counts ++ get_or counts k 0 ∷ [] ≡ take (k + 1) counts = sym (ap (λ m. take m counts) (add-one k) ∙ take-suc counts k 0 (omega arith)) in
    let so_many : length (take k counts) ≡ k = length-take-le k counts (omega arith) in
    subst (λ l. Leading l c.if-common-uses.common) longer
    (elim c.if-common-uses.branch [
      | then-common-uses w ↦
          rw w.common-is (subst (λ n. Leading (take k counts ++ get_or counts k 0 ∷ []) (record { class = n; uses = get_or counts k 0 })) so_many (greater_leads (take k counts) (get_or counts k 0) c.loop-class.common c.loop-class.invariant w.if-common-uses.true))
      | else-common-uses w ↦ rw w.common-is (other_stays (take k counts) (get_or counts k 0) c.loop-class.common c.loop-class.invariant w.if-common-uses.false)
    ])

pub returns : goal.returns
returns c =
    let counts = c.args.use_counts.now in
    let led = c.loop-class in
    let whole : take led.class counts ≡ counts = ap (λ m. take m counts) (let l = c.loop-class-test.false in let i = led.auto.class-end in let e : led.class ≡ length counts = omega arith in e) ∙ take-length counts in
    leading_is counts led.common (subst (λ l. Leading l led.common) whole led.invariant)
