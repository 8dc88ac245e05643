-- Lists by tests: runs of numbers, what passes a test, how many do, the least number that does; sums; and rows that are written into.
use Rattle.std.specs.Prelude.{ℕ, zero, suc, ◌+◌, ◌-◌, Bool, true, false, ◌&&◌, List, [], ◌∷◌, ◌++◌, length, take, drop, replicate, ℤ, pos, ◌+ℤ◌}

-- As many numbers as count says, from start up.
unfoldable pub numbers_from : ℕ → ℕ → List ℕ
numbers_from start zero = []
numbers_from start (suc count) = start ∷ numbers_from (suc start) count

-- Every element passes the test.
unfoldable pub every : {A : Type 0} → (A → Bool) → List A → Bool
every test [] = true
every test (a ∷ l) = test a && every test l

-- The elements that pass the test, in their order.
unfoldable pub keep : {A : Type 0} → (A → Bool) → List A → List A
keep test [] = []
keep test (a ∷ l) = elim (test a) [ true ↦ a ∷ keep test l | false ↦ keep test l ]

-- How many elements pass the test.
unfoldable pub tally : {A : Type 0} → (A → Bool) → List A → ℕ
tally test l = length (keep test l)

unfoldable pub sum_of : List ℕ → ℕ
sum_of [] = 0
sum_of (a ∷ l) = a + sum_of l

-- The sum of some integers.
unfoldable pub exact_sum : List ℤ → ℤ
exact_sum [] = pos 0
exact_sum (z ∷ more) = z +ℤ exact_sum more

-- The first number from start on that passes the test, or the end of so many tries.
unfoldable pub least_from : (ℕ → Bool) → ℕ → ℕ → ℕ
least_from test zero start = start
least_from test (suc tries) start = elim (test start) [ true ↦ start | false ↦ least_from test tries (suc start) ]

-- The least number that passes the test, where some number up to the bound does.
unfoldable pub least : (ℕ → Bool) → ℕ → ℕ
least test bound = least_from test bound 0

-- A list in an array of so many places: those past its last entry hold the filler.
unfoldable pub padded : {A : Type 0} → ℕ → A → List A → List A
padded places filler l = l ++ replicate (places - length l) filler

-- A row with new entries from a place on.
unfoldable pub overwritten : {A : Type 0} → List A → ℕ → List A → List A
overwritten row at new = take at row ++ (new ++ drop (at + length new) row)
