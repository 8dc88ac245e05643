-- All blocks of a cut at once: what a cell makes of the row of their classes and of the row of their values is what evaluation
-- makes of each X by itself.
use Rattle.std.specs.Prelude.{ℕ, ◌+◌, ◌-◌, ◌*◌, ◌/◌, ◌%◌, ◌^◌, ◌≤◌, ◌<◌, ◌≡◌, List, map, set, ℤ, pos, ◌+ℤ◌}
use Rattle.std.proofs.Math.Path.{sym, ap, ap₂, subst}
use Rattle.std.proofs.Common.{◌∙◌, div-le_self, one-mul, div-lt_iff_lt-mul, mul-div_cancel, mul_assoc, mul-le-mul_right, le-mul_of_pos_right, suc-mul, arith, pow_pos, pow-add}
use Rattle.std.proofs.Math.Nat.{zero-add, div-one, div-eq_of_lt, div-div-eq-div-mul}
use Rattle.std.proofs.Math.ListN.{length, get_or}
use Rattle.std.proofs.lemmas.List.{length-map}
use Rattle.std.proofs.Math.Seq.{ext_get_or}
use Rattle.std.specs.Int.Signed.{mag}
use Rattle.numbers.specs.Lists.{numbers_from, overwritten}
use Rattle.numbers.proofs.Laws.Downward.{made_from, made_none, made_more, made_length, made_earlier, made_all, all_length, all_entry}
use Rattle.numbers.proofs.Laws.Lists.{length_range, get_d_range, get_d_map}
use Rattle.numbers.proofs.Laws.Powers.{power_split}
use Rattle.operands.specs.Bytes.{unsigned_at, signed_at}
use Rattle.image.specs.Commands.{table_size, word_size}
use Rattle.image.specs.Inner.Evaluation.{Accepted, card_read, first_progress, group_at, first_word, word_place, next_place, word_ahead, cell_read, CellThere, CellAhead, at_block, block_word, block_class, block_value, classes_below, values_below, BlocksBelow, values_to, result_so_far}
use Rattle.image.specs.Reader.{most_classes}
use Rattle.image.specs.Run.{group_value, run_card}
use Rattle.image.proofs.Laws.Evaluating.{Evaluating, first_evaluating, variables_read, values_few, cell_ahead, cell_passed, result_reached}
use Rattle.image.specs.declared.Progress.{Progress}

-- ---- numbers of blocks

-- The block of the cut above a cell that holds X, by the block of the cut below it.
above_below : (left group x : ℕ) → group ≤ left → x / 2 ^ (left - group) / 2 ^ group ≡ x / 2 ^ left
above_below left group x h = div-div-eq-div-mul x (2 ^ (left - group)) (2 ^ group) ∙ ap (λ p. x / p) (power_split left group h)

-- The first X of a block.
first_of : (y i : ℕ) → y * 2 ^ i / 2 ^ i ≡ y
first_of y i = mul-div_cancel y (pow_pos i)

-- ---- one cell, from the last block of the cut below down

-- The blocks from y on are made; before them, the rows are as they were.
pub record Spread (image : List ℕ) (words group count : ℕ) (classes₀ : List ℕ) (values₀ : List ℤ) (classes : List ℕ) (values : List ℤ) (y : ℕ) : Type 0 where
  pub within : y ≤ count
  pub classed : classes ≡ made_from (block_class image words group classes₀) classes₀ count y
  pub valued : values ≡ made_from (block_value image words group classes₀ values₀) values₀ count y

module _ (image : List ℕ) (words group count : ℕ) (classes₀ : List ℕ) (values₀ : List ℤ) (b : BlocksBelow image words group count classes₀ values₀) where
  pub spread_none : Spread image words group count classes₀ values₀ classes₀ values₀ count
  spread_none = record {
    within = omega arith;
    classed = sym (made_none (block_class image words group classes₀) classes₀ count);
    valued = sym (made_none (block_value image words group classes₀ values₀) values₀ count);
  }

  module _ (classes : List ℕ) (values : List ℤ) (y : ℕ) (s : Spread image words group count classes₀ values₀ classes values y) where
    pub values_length : length values ≡ length values₀
    values_length = ap length s.valued ∙ made_length (block_value image words group classes₀ values₀) values₀ count b.value_room y s.within

    -- The block before them, and the one of the cut above that it is a part of, which is as it was.
    module _ (some : 0 < y) where
      abbrev last : ℕ
      last = y - 1

      abbrev above : ℕ
      above = last / 2 ^ group

      pub above_before : above < y
      above_before = let d = div-le_self last (2 ^ group) in omega arith

      class_kept : get_or classes above 0 ≡ get_or classes₀ above 0
      class_kept = ap (λ l. get_or l above 0) s.classed ∙ made_earlier (block_class image words group classes₀) classes₀ count b.class_room y above 0 s.within above_before

      value_kept : get_or values above (pos 0) ≡ get_or values₀ above (pos 0)
      value_kept = ap (λ l. get_or l above (pos 0)) s.valued ∙ made_earlier (block_value image words group classes₀ values₀) values₀ count b.value_room y above (pos 0) s.within above_before

      -- Where its word stands, and what the word makes of that block's value.
      pub word_here : word_place words group (get_or classes above 0) (last % 2 ^ group) ≡ block_word words group classes₀ last
      unfolding block_word
      word_here = ap (λ class. word_place words group class (last % 2 ^ group)) class_kept

      pub word_there_lem : block_word words group classes₀ last + word_size ≤ length image
      word_there_lem = b.there last (let w = s.within in omega arith)

      pub value_here : get_or values above (pos 0) +ℤ signed_at image (block_word words group classes₀ last + 3) ≡ block_value image words group classes₀ values₀ last
      unfolding block_value
      value_here = ap (λ v. v +ℤ signed_at image (block_word words group classes₀ last + 3)) value_kept

      pub value_small : mag (block_value image words group classes₀ values₀ last) < 2147483648
      value_small = b.small last (let w = s.within in omega arith)

      pub spread_more : Spread image words group count classes₀ values₀ (set classes last (block_class image words group classes₀ last)) (set values last (block_value image words group classes₀ values₀ last)) last
      spread_more =
          let e : y ≡ last + 1 = omega arith in
          record {
            within = (let w = s.within in omega arith);
            classed = ap (λ l. set l last (block_class image words group classes₀ last)) (s.classed ∙ ap (made_from (block_class image words group classes₀) classes₀ count) e) ∙ made_more (block_class image words group classes₀) classes₀ count b.class_room last (let w = s.within in omega arith);
            valued = ap (λ l. set l last (block_value image words group classes₀ values₀ last)) (s.valued ∙ ap (made_from (block_value image words group classes₀ values₀) values₀ count) e) ∙ made_more (block_value image words group classes₀ values₀) values₀ count b.value_room last (let w = s.within in omega arith);
          }

  -- All of them are made.
  pub spread_all : (classes : List ℕ) (values : List ℤ) (y : ℕ) → Spread image words group count classes₀ values₀ classes values y → y ≡ 0
      → (classes ≡ overwritten classes₀ 0 (classes_below image words group count classes₀)) × (values ≡ overwritten values₀ 0 (values_below image words group count classes₀ values₀))
  unfolding classes_below values_below
  spread_all classes values y s e = (
    s.classed ∙ ap (made_from (block_class image words group classes₀) classes₀ count) e ∙ made_all (block_class image words group classes₀) classes₀ count,
    s.valued ∙ ap (made_from (block_value image words group classes₀ values₀) values₀ count) e ∙ made_all (block_value image words group classes₀ values₀) values₀ count,
  )

-- ---- rows of classes and values

-- The blocks of the cut reached: evaluation at every X goes on from the class and the value of its block.
pub record AllBlocks (image : List ℕ) (at left count : ℕ) (classes : List ℕ) (values : List ℤ) : Type 0 where
  pub words : ℕ
  pub whole : count * 2 ^ left ≡ 2 ^ (card_read image).n
  pub row : length classes ≡ most_classes
  pub room : 2 ^ (card_read image).n ≤ length classes
  pub full : length values ≡ 2 ^ (card_read image).n
  pub evaluating : (x : ℕ) → x < 2 ^ (card_read image).n → Evaluating image x (run_card (card_read image) x) (at_block at left words classes values x)

module _ (image : List ℕ) (at left count : ℕ) (classes : List ℕ) (values : List ℤ) (b : AllBlocks image at left count classes values) where
  -- Where variables are left, a cell lies ahead of each X.
  pub cell_there : 0 < left → CellThere image left at
  unfolding at_block
  cell_there h = (cell_ahead image 0 (run_card (card_read image) 0) (at_block at left b.words classes values 0) (b.evaluating 0 (pow_pos (card_read image).n)) h).there

  module _ (some : 0 < left) where
    abbrev group : ℕ
    group = group_at image at

    abbrev below : ℕ
    below = left - group

    abbrev start : ℕ → Progress
    start x = at_block at left b.words classes values x

    inside : group ≤ left
    inside = (cell_there some).inside

    -- As many blocks as the cut below has.
    pub all_below : count * 2 ^ group * 2 ^ below ≡ 2 ^ (card_read image).n
    all_below = mul_assoc count (2 ^ group) (2 ^ below) ∙ ap (λ p. count * p) (sym (pow-add 2 group below) ∙ ap (λ k. 2 ^ k) (let h = inside in let e : group + below ≡ left = omega arith in e)) ∙ b.whole

    pub blocks_fit : count * 2 ^ group ≤ 2 ^ (card_read image).n
    blocks_fit = let m = le-mul_of_pos_right (count * 2 ^ group) (pow_pos below) in let e = all_below in omega arith

    -- The word for X is that of its block.
    word_of_block : (x : ℕ) → word_ahead image x (start x) ≡ block_word (first_word at) group classes (x / 2 ^ below)
    unfolding word_ahead block_word group_value at_block
    word_of_block x = ap (λ q. word_place (first_word at) group (get_or classes q 0) (x / 2 ^ below % 2 ^ group)) (sym (above_below left group x inside))

    value_of_block : (x : ℕ) → (start x).value +ℤ signed_at image (word_ahead image x (start x) + 3) ≡ block_value image (first_word at) group classes values (x / 2 ^ below)
    unfolding block_value at_block
    value_of_block x = ap₂ (λ q w. get_or values q (pos 0) +ℤ signed_at image (w + 3)) (sym (above_below left group x inside)) (word_of_block x)

    class_of_block : (x : ℕ) → unsigned_at image (word_ahead image x (start x) + 1) 2 ≡ block_class image (first_word at) group classes (x / 2 ^ below)
    unfolding block_class
    class_of_block x = ap (λ w. unsigned_at image (w + 1) 2) (word_of_block x)

    -- Each block of the cut below holds an X, and each X lies in one of them.
    x_inside : (y : ℕ) → y < count * 2 ^ group → y * 2 ^ below < 2 ^ (card_read image).n
    x_inside y h = let m = mul-le-mul_right (2 ^ below) h in let e = all_below in let p = pow_pos below in omega (arith, suc-mul y (2 ^ below))

    y_inside : (x : ℕ) → x < 2 ^ (card_read image).n → x / 2 ^ below < count * 2 ^ group
    y_inside x h = (div-lt_iff_lt-mul (pow_pos below)).1 (rw all_below h)

    ahead_of : (y : ℕ) → y < count * 2 ^ group → CellAhead image (y * 2 ^ below) (start (y * 2 ^ below))
    unfolding at_block
    ahead_of y h = cell_ahead image (y * 2 ^ below) (run_card (card_read image) (y * 2 ^ below)) (start (y * 2 ^ below)) (b.evaluating (y * 2 ^ below) (x_inside y h)) some

    -- The cell has a word for each of them.
    pub blocks_below : BlocksBelow image (first_word at) group (count * 2 ^ group) classes values
    blocks_below = record {
      few = (let c = cell_there some in let f = c.few in let i = c.inside in omega arith);
      class_row = b.row;
      class_room = (let f = blocks_fit in let r = b.room in omega arith);
      value_room = (let f = blocks_fit in let r = b.full in omega arith);
      there = (λ y h. subst (λ q. block_word (first_word at) group classes q + word_size ≤ length image) (first_of y below) (rw (sym (word_of_block (y * 2 ^ below))) (ahead_of y h).word));
      small = (λ y h. subst (λ q. mag (block_value image (first_word at) group classes values q) < 2147483648) (first_of y below) (rw (sym (value_of_block (y * 2 ^ below))) (ahead_of y h).small));
    }

    -- Behind the cell, the rows hold the class and the value of each of them.
    module _ (classes' : List ℕ) (values' : List ℤ)
        (c : classes' ≡ overwritten classes 0 (classes_below image (first_word at) group (count * 2 ^ group) classes))
        (v : values' ≡ overwritten values 0 (values_below image (first_word at) group (count * 2 ^ group) classes values)) where
      passed : (x : ℕ) → x < 2 ^ (card_read image).n → at_block (next_place image at) below (b.words + 1) classes' values' x ≡ cell_read image x (start x)
      unfolding at_block cell_read classes_below values_below
      passed x h =
          ap₂ (λ class value. record { at = next_place image at; left = below; class = class; value = value; words = b.words + 1 })
          (ap (λ l. get_or l (x / 2 ^ below) 0) c ∙ all_entry (block_class image (first_word at) group classes) classes (count * 2 ^ group) blocks_below.class_room (x / 2 ^ below) 0 (y_inside x h) ∙ sym (class_of_block x))
          (ap (λ l. get_or l (x / 2 ^ below) (pos 0)) v ∙ all_entry (block_value image (first_word at) group classes values) values (count * 2 ^ group) blocks_below.value_room (x / 2 ^ below) (pos 0) (y_inside x h) ∙ sym (value_of_block x))

      pub blocks_passed : AllBlocks image (next_place image at) below (count * 2 ^ group) classes' values'
      unfolding classes_below values_below at_block
      blocks_passed = record {
        words = b.words + 1;
        whole = all_below;
        row = ap length c ∙ all_length (block_class image (first_word at) group classes) classes (count * 2 ^ group) blocks_below.class_room ∙ b.row;
        room = (let l = ap length c ∙ all_length (block_class image (first_word at) group classes) classes (count * 2 ^ group) blocks_below.class_room in let r = b.room in omega arith);
        full = ap length v ∙ all_length (block_value image (first_word at) group classes values) values (count * 2 ^ group) blocks_below.value_room ∙ b.full;
        evaluating = (λ x h. subst (Evaluating image x (run_card (card_read image) x)) (sym (passed x h)) (cell_passed image x (run_card (card_read image) x) (start x) (b.evaluating x h) some));
      }

  -- Where no variable is left, the values are those of the card.
  pub all_values : left ≡ 0 → values ≡ values_to (card_read image) (length values)
  unfolding values_to at_block result_so_far
  all_values e =
      ext_get_or (pos 0) values (map (λ x. (run_card (card_read image) x).value) (numbers_from 0 (length values)))
      (sym (length-map (numbers_from 0 (length values)) (λ x. (run_card (card_read image) x).value) ∙ length_range 0 (length values)))
      (λ x h. value_at x h ∙ sym (get_d_map (λ x. (run_card (card_read image) x).value) (numbers_from 0 (length values)) x 0 (pos 0) (rw (length_range 0 (length values)) h) ∙ ap (λ x. (run_card (card_read image) x).value) (get_d_range 0 (length values) x 0 h ∙ zero-add x)))
    where
      value_at : (x : ℕ) → x < length values → get_or values x (pos 0) ≡ (run_card (card_read image) x).value
      value_at x h =
          ap (λ q. get_or values q (pos 0)) (sym (ap (λ i. x / 2 ^ i) e ∙ div-one x))
          ∙ ap (λ r. r.value) (result_reached image x (run_card (card_read image) x) (at_block at left b.words classes values x) (b.evaluating x (rw (sym b.full) h)) e)

-- Before the first cell there is one block, with the offset and class 0.
pub first_block : (image : List ℕ) → Accepted image → (classes : List ℕ) (values : List ℤ) → length classes ≡ most_classes → length values ≡ 2 ^ (card_read image).n → get_or classes 0 0 ≡ 0 → get_or values 0 (pos 0) ≡ signed_at image 2
    → AllBlocks image table_size (unsigned_at image 1 1) 1 classes values
unfolding first_progress at_block
first_block image a classes values row full class offset = record {
  words = 0;
  whole = one-mul (2 ^ unsigned_at image 1 1) ∙ ap (λ k. 2 ^ k) (variables_read image a);
  row = row;
  room = rw row (values_few image a);
  full = full;
  evaluating =
      (λ x h.
      let none : x / 2 ^ unsigned_at image 1 1 ≡ 0 = div-eq_of_lt (rw (variables_read image a) h) in
      subst (Evaluating image x (run_card (card_read image) x))
      (ap₂ (λ class value. record { at = table_size; left = unsigned_at image 1 1; class = class; value = value; words = 0 }) (sym (ap (λ q. get_or classes q 0) none ∙ class)) (sym (ap (λ q. get_or values q (pos 0)) none ∙ offset)))
      (first_evaluating image a x));
}
