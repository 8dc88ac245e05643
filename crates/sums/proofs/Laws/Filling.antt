-- Writing the sums: a row of changed numbers, one more, and the table with one weight more.
use Rattle.std.specs.Prelude.{ℕ, suc, ◌+◌, ◌^◌, ◌≤◌, ◌<◌, ◌≡◌, List, [], ◌∷◌, ◌++◌, map, length, get_or, take, set, ℤ, pos, ◌+ℤ◌}
use Rattle.std.proofs.Common.{sym, ◌∙◌, ap, ap₂, append-nil, add-one, arith, length-set, drop_of_length-le, take-suc, take_all, take-suc-set, length-take-le, get_or-take, pow_pos, pow_mono}
use Rattle.std.proofs.Math.Nat.{two-pow-succ}
use Rattle.std.proofs.lemmas.List.{length-map}
use Rattle.std.proofs.Math.Seq.{take-length}
use Rattle.numbers.specs.Lists.{overwritten}
use Rattle.numbers.specs.Ranges.{is_value}
use Rattle.numbers.proofs.Laws.Lists.{map_append, every_at}
use Rattle.numbers.proofs.Laws.Overwriting.{take_overwritten, length_overwritten}
use Rattle.numbers.proofs.Laws.Rows.{earlier_entry, later_entry, overwritten_none, overwritten_front}
use Rattle.numbers.proofs.Laws.Written.{stored_behind}
use Rattle.sums.specs.Sums.{sum_at, sum_table}
use Rattle.sums.proofs.Laws.Extremes.{sum_at_small}
use Rattle.sums.proofs.Laws.Split.{table_none, table_more, table_at}
use Rattle.sums.specs.Inner.Summable.{Summable}
use Rattle.sums.proofs.Laws.Summable.{first_values}
use Rattle.sums.specs.Inner.Filling.{MayDouble, SumsWritten}

-- ---- numbers of a row, each changed, from a place on

module _ (f : ℤ → ℤ) (row : List ℤ) (at : ℕ) where
  changed_count : (x : ℕ) → x ≤ length row → length (map f (take x row)) ≡ x
  changed_count x l = length-map (take x row) f ∙ length-take-le x row l

  pub changed_none : row ≡ overwritten row at (map f (take 0 row))
  changed_none = sym (overwritten_none row at)

  pub changed_length : (x : ℕ) → x ≤ length row → at + x ≤ length row → {row' : List ℤ} → row' ≡ overwritten row at (map f (take x row)) → length row' ≡ length row
  changed_length x inside room e = ap length e ∙ length_overwritten row at (map f (take x row)) (rw (changed_count x inside) room)

  module _ (x : ℕ) (inside : x < length row) (room : at + x < length row) {row' : List ℤ} (e : row' ≡ overwritten row at (map f (take x row))) where
    -- One more.
    pub changed_more : set row' (at + x) (f (get_or row x (pos 0))) ≡ overwritten row at (map f (take (x + 1) row))
    changed_more =
        stored_behind row at (map f (take x row)) e (at + x) (f (get_or row x (pos 0))) (ap (λ k. at + k) (changed_count x (omega arith))) room
        ∙ ap (overwritten row at) (sym (ap (λ k. map f (take k row)) (add-one x) ∙ ap (map f) (take-suc row x (pos 0) inside) ∙ map_append f (take x row) (get_or row x (pos 0) ∷ [])))

    -- The next number to be changed stands as it was: before the changed ones, or just behind them.
    pub next_before : x < at → get_or row' x (pos 0) ≡ get_or row x (pos 0)
    next_before l = ap (λ r. get_or r x (pos 0)) e ∙ earlier_entry row at (map f (take x row)) (rw (changed_count x (omega arith)) (omega arith)) x (pos 0) l

    pub next_behind : at ≡ 0 → get_or row' x (pos 0) ≡ get_or row x (pos 0)
    next_behind z = ap (λ r. get_or r x (pos 0)) e ∙ later_entry row at (map f (take x row)) (rw (changed_count x (omega arith)) (omega arith)) x (pos 0) (rw (changed_count x (omega arith)) (omega arith))

  -- All of them.
  pub changed_all : (x : ℕ) {row' : List ℤ} → at ≡ 0 → x ≡ length row → row' ≡ overwritten row at (map f (take x row)) → row' ≡ map f row
  changed_all x z all e =
      e
      ∙ ap₂ (λ k l. overwritten row k (map f l)) z (ap (λ k. take k row) all ∙ take-length row)
      ∙ overwritten_front row (map f row)
      ∙ ap (λ l. map f row ++ l) (drop_of_length-le row {i = length (map f row)} (rw length-map (omega arith)))
      ∙ append-nil (map f row)

-- ---- the sums

module _ (weights row : List ℤ) where
  -- Of no weight there is one sum.
  pub first_sum : length row ≡ 2 ^ length weights → SumsWritten weights (set row 0 (pos 0)) 0
  first_sum size =
      let some = pow_pos (length weights) in
      record { size = length-set row 0 (pos 0) ∙ size; front = take-suc-set row 0 (pos 0) (omega arith) ∙ sym table_none }

  module _ (j : ℕ) (inside : j < length weights) (written : SumsWritten weights row j) where
    long : 2 ^ j + 2 ^ j ≤ length row
    long =
        let s = written.size in
        let p : 2 ^ suc j ≤ 2 ^ length weights = pow_mono inside in
        let t = two-pow-succ j in
        omega arith

    pub may_double : Summable weights → MayDouble row (2 ^ j) (get_or weights j (pos 0))
    may_double s = record {
      room = long;
      small = (λ x l.
          let few = s.few in
          let part = length-take-le j weights (omega arith) in
          let m = sum_at_small (take j weights) (first_values weights j s.values) x in
          let is : get_or row x (pos 0) ≡ sum_at (take j weights) x = sym (get_or-take (2 ^ j) row x (pos 0) l) ∙ ap (λ r. get_or r x (pos 0)) written.front ∙ table_at (take j weights) x (rw part l) in
          rw is (omega arith));
      value = every_at is_value weights (pos 0) s.values j inside;
    }

    -- The next weight doubles them.
    pub doubled : {row' : List ℤ} → row' ≡ overwritten row (2 ^ j) (map (λ v. v +ℤ get_or weights j (pos 0)) (take (2 ^ j) row)) → SumsWritten weights row' (j + 1)
    doubled e =
        let w = get_or weights j (pos 0) in
        let add : ℤ → ℤ = (λ v. v +ℤ w) in
        let new = map add (take (2 ^ j) row) in
        let count : length new ≡ 2 ^ j = length-map (take (2 ^ j) row) add ∙ length-take-le (2 ^ j) row (let l = long in omega arith) in
        record {
          size = ap length e ∙ length_overwritten row (2 ^ j) new (rw count long) ∙ written.size;
          front =
              ap₂ take (ap (λ k. 2 ^ k) (add-one j) ∙ two-pow-succ j ∙ ap (λ k. 2 ^ j + k) (sym count)) e
              ∙ take_overwritten row (2 ^ j) new (let l = long in omega arith)
              ∙ ap (λ t. t ++ map add t) written.front
              ∙ sym (ap (λ k. sum_table (take k weights)) (add-one j) ∙ ap sum_table (take-suc weights j (pos 0) inside) ∙ table_more (take j weights) w);
        }

  -- With the last one all are there.
  pub all_sums : (j : ℕ) → j ≡ length weights → SumsWritten weights row j → row ≡ sum_table weights
  all_sums j last written =
      let whole : length row ≡ 2 ^ j = written.size ∙ ap (λ k. 2 ^ k) (sym last) in
      sym (take_all (2 ^ j) row (omega arith)) ∙ written.front ∙ ap sum_table (ap (λ k. take k weights) last ∙ take-length weights)
