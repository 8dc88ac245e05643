-- One variable of a walk and several: which edge is taken, what the path from its end adds, and what a path reaches.
use Prim.Native.Nat.{ℕ, zero, suc, ◌+◌, ◌-◌, ◌/◌, ◌%◌, ◌^◌, ◌≤◌}
use Rattle.std.specs.Prelude.{◌≡◌, refl, true, false, ◌&&◌, List, length, leb, eqb, ℤ, pos, nat_abs, ◌+ℤ◌}
use Rattle.std.proofs.Common.{sym, ◌∙◌, ap, zero-add, arith, shr-shr}
use Rattle.std.proofs.Math.IntN.{+ℤ_idl, +ℤ_idr, +ℤ_assoc}
use Rattle.std.specs.Int.Signed.{mag}
use Rattle.numbers.specs.Lists.{numbers_from, every}
use Rattle.numbers.specs.Ranges.{eq_z}
use Rattle.numbers.proofs.Laws.Bools.{yes_or_no, both}
use Rattle.numbers.proofs.Laws.Bounds.{value_mag, weight_mag}
use Rattle.numbers.proofs.Laws.Integers.{eq_z_refl}
use Rattle.numbers.proofs.Laws.Machine.{mag_add}
use Rattle.numbers.proofs.Laws.Lists.{length_range, get_d_range, every_at}
use Rattle.diagram.specs.Records.{record_size}
use Rattle.diagram.specs.Build.{node_room}
use Rattle.diagram.specs.Walk.{variable_at, low_at, high_at, weight_at, record_fits, record_count, list_fits, bit_set, path_weight, walk_value}
use Rattle.diagram.specs.Inner.Edges.{Walkable, edge_at, descend, root_of, PathReady, Passing}
use Rattle.diagram.specs.declared.Edge.{Edge}
use Rattle.diagram.specs.declared.Waypoint.{Waypoint}
use Rattle.diagram.proofs.Laws.Checks.{unequal, child_node, edges_of_record}
use Rattle.diagram.proofs.Laws.Steps.{path_terminal}

-- ---- which edge is taken

module _ (list : List ℤ) (i : ℕ) where
  pub edge_none : (k x : ℕ) → k ≡ 0 → edge_at list i k x ≡ record { weight = pos 0; node = 0 }
  unfolding edge_at
  edge_none k x e = rw e

  pub edge_later : (k x : ℕ) → 1 ≤ k → (variable_at list k ≡ pos i → ⊥) → edge_at list i k x ≡ record { weight = pos 0; node = k }
  unfolding edge_at
  edge_later zero x h v = absurd (omega arith)
  edge_later (suc k) x h v = rw (unequal (variable_at list (suc k)) (pos i) v, edge_at)

  -- The variable is that of the record.
  own_variable : (k : ℕ) → variable_at list k ≡ pos i → eq_z (variable_at list k) (pos i) ≡ true
  own_variable k v = ap (λ z. eq_z z (pos i)) v ∙ eq_z_refl (pos i)

  pub edge_high : (k x : ℕ) → 1 ≤ k → variable_at list k ≡ pos i → bit_set x i ≡ true → edge_at list i k x ≡ record { weight = weight_at list k; node = nat_abs (high_at list k) }
  unfolding edge_at
  edge_high zero x h v b = absurd (omega arith)
  edge_high (suc k) x h v b = rw (own_variable (suc k) v, b, edge_at)

  pub edge_low : (k x : ℕ) → 1 ≤ k → variable_at list k ≡ pos i → bit_set x i ≡ false → edge_at list i k x ≡ record { weight = pos 0; node = nat_abs (low_at list k) }
  unfolding edge_at
  edge_low zero x h v b = absurd (omega arith)
  edge_low (suc k) x h v b = rw (own_variable (suc k) v, b, edge_at)

-- ---- the path behind it

-- The path from a node is the edge and the path from there.
pub path_edge : (list : List ℤ) (i k x : ℕ) → path_weight list (suc i) k x ≡ (edge_at list i k x).weight +ℤ path_weight list i (edge_at list i k x).node x
unfolding path_weight edge_at
path_edge list i zero x = sym (+ℤ_idl (path_weight list i 0 x) ∙ path_terminal list i x)
path_edge list i (suc k) x =
    yes_or_no (eq_z (variable_at list (suc k)) (pos i))
    (λ v.
    yes_or_no (bit_set x i)
    (λ b. rw (v, b, path_weight, edge_at) refl)
    (λ b. rw (v, b, path_weight, edge_at) (sym (+ℤ_idl (path_weight list i (nat_abs (low_at list (suc k))) x)))))
    (λ v. rw (v, path_weight, edge_at) (sym (+ℤ_idl (path_weight list i (suc k) x))))

-- ---- records that passed the check

-- What holds of every edge that a node may have holds of the one taken.
edge_any : (P : Edge → Type 0) (list : List ℤ) (i k x : ℕ) → (k ≡ 0 → P (record { weight = pos 0; node = 0 })) → (1 ≤ k → P (record { weight = pos 0; node = k })) → (1 ≤ k → P (record { weight = weight_at list k; node = nat_abs (high_at list k) })) → (1 ≤ k → P (record { weight = pos 0; node = nat_abs (low_at list k) })) → P (edge_at list i k x)
unfolding edge_at
edge_any P list i zero x none later upper lower = none refl
edge_any P list i (suc k) x none later upper lower =
    yes_or_no (eq_z (variable_at list (suc k)) (pos i))
    (λ v. yes_or_no (bit_set x i) (λ b. rw (v, b, edge_at) (upper (omega arith))) (λ b. rw (v, b, edge_at) (lower (omega arith))))
    (λ v. rw (v, edge_at) (later (omega arith)))

module _ (list : List ℤ) (i k x : ℕ) (w : Walkable list k) where
  -- It ends at a node of the list.
  pub edge_known : (edge_at list i k x).node ≤ record_count list
  edge_known =
      edge_any (λ e. e.node ≤ record_count list) list i k x (λ e. omega arith) (λ h. w.known)
      (λ h. let c = child_node list k (high_at list k) (w.high h) in let l = w.known in let m = c.1 in omega arith)
      (λ h. let c = child_node list k (low_at list k) (w.low h) in let l = w.known in let m = c.1 in omega arith)

  -- At none behind k.
  pub edge_before : (edge_at list i k x).node ≤ k
  edge_before =
      edge_any (λ e. e.node ≤ k) list i k x (λ e. omega arith) (λ h. omega arith)
      (λ h. let c = child_node list k (high_at list k) (w.high h) in let m = c.1 in omega arith)
      (λ h. let c = child_node list k (low_at list k) (w.low h) in let m = c.1 in omega arith)

  -- Its weight is within range.
  pub edge_weight : mag (edge_at list i k x).weight ≤ 16777215
  edge_weight =
      edge_any (λ e. mag e.weight ≤ 16777215) list i k x (λ e. omega arith) (λ h. omega arith)
      (λ h. weight_mag (weight_at list k) (w.weight h))
      (λ h. omega arith)

-- Of a list that passes, every record does.
pub record_passes : (n : ℕ) (list : List ℤ) → list_fits n list ≡ true → (k : ℕ) → 1 ≤ k → k ≤ record_count list → record_fits n list k ≡ true
unfolding list_fits
record_passes n list h k one l =
    ap (record_fits n list) (sym (get_d_range 1 (record_count list) (k - 1) 0 (omega arith) ∙ (let e : 1 + (k - 1) ≡ k = omega arith in e)))
    ∙ every_at (record_fits n list) (numbers_from 1 (record_count list)) 0 (both (eqb (length list % record_size) 0 && leb (length list) (node_room n)) (every (record_fits n list) (numbers_from 1 (record_count list))) h).1 (k - 1) (rw length_range (omega arith))

-- And every node may be walked from.
pub passes_walkable : (n : ℕ) (list : List ℤ) → list_fits n list ≡ true → (k : ℕ) → k ≤ record_count list → Walkable list k
passes_walkable n list h k l = record {
  known = l;
  low = λ one. (edges_of_record n list k (record_passes n list h k one l)).low;
  high = λ one. (edges_of_record n list k (record_passes n list h k one l)).high;
  weight = λ one. (edges_of_record n list k (record_passes n list h k one l)).weight;
}

-- ---- what a path reaches

-- One variable further.
abbrev pub further : List ℤ → ℕ → ℕ → Waypoint → Waypoint
further list i x r = record { value = r.value +ℤ (edge_at list i r.node x).weight; node = (edge_at list i r.node x).node }

pub descend_more : (list : List ℤ) (low count x : ℕ) (r : Waypoint) → descend list low (suc count) x r ≡ descend list low count x (further list (low + count) x r)
unfolding descend
descend_more list low count x r = refl

pub descend_none : (list : List ℤ) (low x : ℕ) (r : Waypoint) → descend list low 0 x r ≡ r
unfolding descend
descend_none list low x r = refl

-- What is reached, with the path from there, makes the same value.
pub descend_value : (list : List ℤ) (low count x : ℕ) (r : Waypoint) → (descend list low count x r).value +ℤ path_weight list low (descend list low count x r).node x ≡ r.value +ℤ path_weight list (low + count) r.node x
unfolding descend
descend_value list low zero x r = ap (λ i. r.value +ℤ path_weight list i r.node x) (let e : low ≡ low + 0 = omega arith in e)
descend_value list low (suc count) x r =
    descend_value list low count x (further list (low + count) x r)
    ∙ +ℤ_assoc r.value (edge_at list (low + count) r.node x).weight (path_weight list (low + count) (edge_at list (low + count) r.node x).node x)
    ∙ ap (λ z. r.value +ℤ z) (sym (path_edge list (low + count) r.node x))
    ∙ ap (λ i. r.value +ℤ path_weight list i r.node x) (let e : suc (low + count) ≡ low + suc count = omega arith in e)

-- From the root with all variables read it is the value at X.
pub descend_all : (n : ℕ) (offset : ℤ) (list : List ℤ) (x : ℕ) → (descend list 0 n x (root_of offset list)).value ≡ walk_value n offset list x
unfolding walk_value root_of path_weight
descend_all n offset list x =
    sym (+ℤ_idr (descend list 0 n x (root_of offset list)).value)
    ∙ descend_value list 0 n x (root_of offset list)
    ∙ ap (λ i. offset +ℤ path_weight list i (record_count list) x) (zero-add n)

-- Some variables after others.
pub descend_on : (list : List ℤ) (low count x : ℕ) (r : Waypoint) → descend list 0 low x (descend list low count x r) ≡ descend list 0 (low + count) x r
descend_on list low zero x r = ap (descend list 0 low x) (descend_none list low x r) ∙ ap (λ m. descend list 0 m x r) (let e : low ≡ low + 0 = omega arith in e)
descend_on list low (suc count) x r =
    ap (descend list 0 low x) (descend_more list low count x r)
    ∙ descend_on list low count x (further list (low + count) x r)
    ∙ ap (λ i. descend list 0 (low + count) x (further list i x r)) (sym (zero-add (low + count)))
    ∙ sym (descend_more list 0 (low + count) x r)
    ∙ ap (λ m. descend list 0 m x r) (let e : suc (low + count) ≡ low + suc count = omega arith in e)

-- Numbers that agree from bit low on reach the same.
edge_same : (list : List ℤ) (i k x y : ℕ) → bit_set x i ≡ bit_set y i → edge_at list i k x ≡ edge_at list i k y
unfolding edge_at
edge_same list i zero x y e = refl
edge_same list i (suc k) x y e =
    yes_or_no (eq_z (variable_at list (suc k)) (pos i))
    (λ v. yes_or_no (bit_set y i) (λ b. rw (v, e, b, edge_at)) (λ b. rw (v, e, b, edge_at)))
    (λ v. rw (v, edge_at))

high_bit : (x y low count : ℕ) → x / 2 ^ low ≡ y / 2 ^ low → bit_set x (low + count) ≡ bit_set y (low + count)
unfolding bit_set
high_bit x y low count e = ap (λ q. eqb (q % 2) 1) (sym (shr-shr x low count) ∙ ap (λ q. q / 2 ^ count) e ∙ shr-shr y low count)

pub descend_same : (list : List ℤ) (low count x y : ℕ) (r : Waypoint) → x / 2 ^ low ≡ y / 2 ^ low → descend list low count x r ≡ descend list low count y r
descend_same list low zero x y r e = descend_none list low x r ∙ sym (descend_none list low y r)
descend_same list low (suc count) x y r e =
    descend_more list low count x r
    ∙ descend_same list low count x y (further list (low + count) x r) e
    ∙ ap (λ edge. descend list low count y (record { value = r.value +ℤ edge.weight; node = edge.node })) (edge_same list (low + count) r.node x y (high_bit x y low count e))
    ∙ sym (descend_more list low count y r)

-- ---- the way down

-- One variable further it may be followed on.
pub ready_further : (list : List ℤ) (low count x : ℕ) (r : Waypoint) → PathReady list low (suc count) r → PathReady list low count (further list (low + count) x r)
ready_further list low count x r p = record {
  nodes = p.nodes;
  height = let h = p.height in omega arith;
  known = edge_known list (low + count) r.node x (p.nodes r.node p.known);
  bounded =
      (let s = mag_add r.value (edge_at list (low + count) r.node x).weight in
      let b = p.bounded in
      let m = edge_weight list (low + count) r.node x (p.nodes r.node p.known) in
      let h = p.height in
      omega arith);
}

-- And when all of them are read.
pub ready_below : (list : List ℤ) (low count x : ℕ) (r : Waypoint) → PathReady list low count r → PathReady list 0 low (descend list low count x r)
ready_below list low zero x r p = rw (descend_none list low x r) (record { nodes = p.nodes; height = (let h = p.height in omega arith); known = p.known; bounded = (let b = p.bounded in omega arith) })
ready_below list low (suc count) x r p = rw (descend_more list low count x r) (ready_below list low count x (further list (low + count) x r) (ready_further list low count x r p))

-- From the root of a list that passed.
pub ready_root : (n : ℕ) (offset : ℤ) (list : List ℤ) → n ≤ 12 → Passing n offset list → (low count : ℕ) → low + count ≡ n → PathReady list low count (root_of offset list)
unfolding root_of
ready_root n offset list v p low count e = record {
  nodes = passes_walkable n list p.records;
  height = omega arith;
  known = omega arith;
  bounded = (let m = value_mag offset p.start in omega arith);
}
