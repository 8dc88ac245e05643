-- Walk: its check of a record list, and the value on the path from the root. Any list that passes is walked.
use Rattle.std.specs.Prelude.{ℕ, zero, suc, ◌+◌, ◌-◌, ◌*◌, ◌/◌, ◌%◌, ◌^◌, Bool, true, false, ◌&&◌, ◌||◌, List, map, length, get_or, leb, ltb, eqb, ℤ, pos, nat_abs, ◌+ℤ◌}
use Rattle.std.specs.Int.Signed.{lt_z}
use Rattle.numbers.specs.Answers.{Answer, accepted, unless}
use Rattle.numbers.specs.Extremes.{least_of, greatest_of}
use Rattle.numbers.specs.Lists.{numbers_from, every}
use Rattle.numbers.specs.Ranges.{is_variables, is_value, is_weight, within, eq_z}
use Rattle.diagram.specs.Records.{record_size}
use Rattle.diagram.specs.Build.{node_room}

-- Number c, from 0, of record k, from 1.
unfoldable pub number_at : List ℤ → ℕ → ℕ → ℤ
number_at list k c = get_or list (record_size * (k - 1) + c) (pos 0)

-- The variable, low, high, weight, least and greatest of record k.
unfoldable pub variable_at : List ℤ → ℕ → ℤ
variable_at list k = number_at list k 0

unfoldable pub low_at : List ℤ → ℕ → ℤ
low_at list k = number_at list k 1

unfoldable pub high_at : List ℤ → ℕ → ℤ
high_at list k = number_at list k 2

unfoldable pub weight_at : List ℤ → ℕ → ℤ
weight_at list k = number_at list k 3

unfoldable pub least_at : List ℤ → ℕ → ℤ
least_at list k = number_at list k 4

unfoldable pub greatest_at : List ℤ → ℕ → ℤ
greatest_at list k = number_at list k 5

-- A child of record k: node 0, or an earlier record of a lower variable.
unfoldable pub child_fits : List ℤ → ℕ → ℤ → Bool
child_fits list k child =
    within (pos 0) (pos (k - 1)) child && (eq_z child (pos 0) || lt_z (variable_at list (nat_abs child)) (variable_at list k))

-- The edges of record k fit: its variable, its two children and its weight.
unfoldable pub edges_fit : ℕ → List ℤ → ℕ → Bool
edges_fit n list k =
    within (pos 0) (pos (n - 1)) (variable_at list k)
    && child_fits list k (low_at list k)
    && child_fits list k (high_at list k)
    && is_weight (weight_at list k)

-- Bit i of X is 1.
unfoldable pub bit_set : ℕ → ℕ → Bool
bit_set x i = eqb (x / 2 ^ i % 2) 1

-- The weights of the 1-edges on the path from node k down, with the variables below i still to be read.
unfoldable pub path_weight : List ℤ → ℕ → ℕ → ℕ → ℤ
path_weight list zero k x = pos 0
path_weight list (suc i) zero x = pos 0
path_weight list (suc i) (suc k) x =
    elim (eq_z (variable_at list (suc k)) (pos i)) [
      | true ↦ elim (bit_set x i) [
        | true ↦ weight_at list (suc k) +ℤ path_weight list i (nat_abs (high_at list (suc k))) x
        | false ↦ path_weight list i (nat_abs (low_at list (suc k))) x
      ]
      | false ↦ path_weight list i (suc k) x
    ]

-- The function of node k as the list of its values at all X; at X = 0 it is 0.
unfoldable pub node_values : ℕ → List ℤ → ℕ → List ℤ
node_values n list k = map (path_weight list n k) (numbers_from 0 (2 ^ n))

-- The last two numbers of record k are true: the least and the greatest value of its function.
unfoldable pub range_fits : ℕ → List ℤ → ℕ → Bool
range_fits n list k = eq_z (least_at list k) (least_of (node_values n list k)) && eq_z (greatest_at list k) (greatest_of (node_values n list k))

-- What is asked of record k.
unfoldable pub record_fits : ℕ → List ℤ → ℕ → Bool
record_fits n list k = edges_fit n list k && range_fits n list k

-- How many records a list of numbers has.
unfoldable pub record_count : List ℤ → ℕ
record_count list = length list / record_size

-- Walk's check of a record list, refusal 6 where it fails.
unfoldable pub list_fits : ℕ → List ℤ → Bool
list_fits n list =
    eqb (length list % record_size) 0 && leb (length list) (node_room n) && every (record_fits n list) (numbers_from 1 (record_count list))

-- The value at X: the offset and the path from the root (the paper's term), which is the last record, or node 0 where there is none.
unfoldable pub walk_value : ℕ → ℤ → List ℤ → ℕ → ℤ
walk_value n offset list x = offset +ℤ path_weight list n (record_count list) x

-- The checks on an offset and a record list, in their order: 1, 5, 6.
unfoldable pub of_list : {A : Type 0} → ℕ → ℤ → List ℤ → Answer A → Answer A
of_list n offset list rest =
    unless (is_variables n) 1
    (unless (is_value offset) 5
    (unless (list_fits n list) 6
    rest))

-- Walk's answer: those checks, then 7.
unfoldable pub walk : ℕ → ℤ → List ℤ → ℕ → Answer ℤ
walk n offset list x = of_list n offset list (unless (ltb x (2 ^ n)) 7 (accepted (walk_value n offset list x)))
