-- Laws of the list definitions: runs of numbers, tests over lists.
use Rattle.std.specs.List.{list_all}
use Rattle.std.specs.Prelude.{ℕ, zero, suc, ◌+◌, ◌-◌, ◌<◌, ◌≡◌, refl, Bool, true, false, ◌&&◌, List, [], ◌∷◌, ◌++◌, map, length, get_or, take, drop}
use Rattle.std.proofs.Common.{sym, ◌∙◌, ap, ap₂, true≢false, add-zero, add-suc, suc-add, arith}
use Rattle.std.proofs.Math.Seq.{take-nil, drop-nil}
use Rattle.numbers.specs.Lists.{numbers_from, every}
use Rattle.numbers.proofs.Laws.Bools.{yes_or_no, both, and_both}

-- ---- runs of numbers

pub length_range : (start count : ℕ) → length (numbers_from start count) ≡ count
unfolding numbers_from
length_range start zero = refl
length_range start (suc count) = ap suc (length_range (suc start) count)

pub get_d_range : (start count j d : ℕ) → j < count → get_or (numbers_from start count) j d ≡ start + j
unfolding numbers_from
get_d_range start zero j d h = absurd (omega arith)
get_d_range start (suc count) zero d h = sym (add-zero start)
get_d_range start (suc count) (suc j) d h = get_d_range (suc start) count j d (omega arith) ∙ suc-add start j ∙ sym (add-suc start j)

-- A run is a shorter run and its last number.
pub range_suc : (start count : ℕ) → numbers_from start (suc count) ≡ numbers_from start count ++ (start + count) ∷ []
unfolding numbers_from
range_suc start zero = ap (λ n. n ∷ []) (sym (add-zero start))
range_suc start (suc count) = ap (λ l. start ∷ l) (range_suc (suc start) count ∙ ap (λ n. numbers_from (suc start) count ++ n ∷ []) (suc-add start count ∙ sym (add-suc start count)))

-- ---- an element of a mapped list

pub get_d_map : {A B : Type 0} (f : A → B) (l : List A) (j : ℕ) (a : A) (b : B) → j < length l → get_or (map f l) j b ≡ f (get_or l j a)
get_d_map f [] j a b h = absurd (omega arith)
get_d_map f (x ∷ l) zero a b h = refl
get_d_map f (x ∷ l) (suc j) a b h = get_d_map f l j a b (omega arith)

-- ---- a test over a list

pub every_at : {A : Type 0} (test : A → Bool) (l : List A) (a : A) → every test l ≡ true → (j : ℕ) → j < length l → test (get_or l j a) ≡ true
unfolding every
every_at test [] a h j k = absurd (omega arith)
every_at test (x ∷ l) a h zero k = (both (test x) (every test l) h).0
every_at test (x ∷ l) a h (suc j) k = every_at test l a (both (test x) (every test l) h).1 j (omega arith)

pub every_from : {A : Type 0} (test : A → Bool) (l : List A) (a : A) → ((j : ℕ) → j < length l → test (get_or l j a) ≡ true) → every test l ≡ true
unfolding every
every_from test [] a h = refl
every_from test (x ∷ l) a h = and_both (test x) (every test l) (h 0 (omega arith)) (every_from test l a (λ j k. h (suc j) (omega arith)))

-- Where it fails, it fails somewhere.
pub every_not : {A : Type 0} (test : A → Bool) (l : List A) (a : A) → every test l ≡ false → (j : ℕ) × ((j < length l) × (test (get_or l j a) ≡ false))
unfolding every
every_not test [] a h = absurd (true≢false h)
every_not test (x ∷ l) a h =
    yes_or_no (test x)
    (λ t. let r = every_not test l a (rw t at h) in (suc r.0, (let inside = r.1.0 in omega arith, r.1.1)))
    (λ t. (0, (omega arith, t)))

-- ---- parts of parts

pub drop_take : {A : Type 0} (a b : ℕ) (l : List A) → drop a (take b l) ≡ take (b - a) (drop a l)
drop_take zero b l = ap (λ n. take n l) (let e : b ≡ b - 0 = omega arith in e)
drop_take (suc a) zero l = drop-nil (suc a) ∙ sym (ap (λ n. take n (drop (suc a) l)) (let e : 0 - suc a ≡ 0 = omega arith in e))
drop_take (suc a) (suc b) [] = sym (take-nil (suc b - suc a))
drop_take (suc a) (suc b) (x ∷ l) = drop_take a b l ∙ ap (λ n. take n (drop a l)) (let e : b - a ≡ suc b - suc a = omega arith in e)

-- ---- mapped parts

pub map_take : {A B : Type 0} (f : A → B) (n : ℕ) (l : List A) → map f (take n l) ≡ take n (map f l)
map_take f zero l = refl
map_take f (suc n) [] = refl
map_take f (suc n) (x ∷ l) = ap (λ m. f x ∷ m) (map_take f n l)

pub map_drop : {A B : Type 0} (f : A → B) (n : ℕ) (l : List A) → map f (drop n l) ≡ drop n (map f l)
map_drop f zero l = refl
map_drop f (suc n) [] = refl
map_drop f (suc n) (x ∷ l) = map_drop f n l

pub map_append : {A B : Type 0} (f : A → B) (l m : List A) → map f (l ++ m) ≡ map f l ++ map f m
map_append f [] m = refl
map_append f (a ∷ l) m = ap (λ r. f a ∷ r) (map_append f l m)

pub map_map : {A B C : Type 0} (f : A → B) (g : B → C) (l : List A) → map g (map f l) ≡ map (λ a. g (f a)) l
map_map f g [] = refl
map_map f g (x ∷ l) = ap (λ m. g (f x) ∷ m) (map_map f g l)

pub map_same : {A B : Type 0} (f g : A → B) (l : List A) → ((a : A) → f a ≡ g a) → map f l ≡ map g l
map_same f g [] h = refl
map_same f g (x ∷ l) h = ap₂ (λ b m. b ∷ m) (h x) (map_same f g l h)

-- The library's word for every element's passing.
pub every_all : {A : Type 0} (test : A → Bool) (l : List A) → every test l ≡ list_all test l
unfolding every
every_all test [] = refl
every_all test (a ∷ l) = ap (λ b. test a && b) (every_all test l)
