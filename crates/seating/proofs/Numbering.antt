-- No number is seated twice: each stands once at most among all numbers, counted list by list.
use Rattle.std.proofs.Common.{◌≡◌, ℕ, zero, suc, ◌+◌, ◌<◌, ◌≤◌, Bool, true, false, cond, not, ◌==◌, List, [], ◌∷◌, map, length, get_or, take, set, replicate, count_by, sum_by, sym, refl, ap, ◌∙◌, arith}
use Rattle.std.specs.List.{remove, list_any}
use Rattle.std.proofs.lemmas.Bool.{and_parts, true≢false}
use Rattle.std.proofs.lemmas.List.{get_or-take, length-take-le}
use Rattle.std.proofs.lemmas.List.Sums.{sum_by-cons, sum_by-append, sum_by-set, sum_by-insert, get_or-le-sum_by, sum_by_more_le}
use Rattle.tasks.specs.declared.task.Task.{Task}
use Rattle.tasks.specs.Priority.{joined}
use Rattle.seating.specs.declared.seat.Seat.{Seat}
use Rattle.seating.specs.Seats.{Lists, tasks_of, no_seat, place_of, numbers_of, numbers, has, all_differ, seated}
use Rattle.seating.proofs.Placing.{joined_at_place}

-- sums and counts over any list
sum_of_map : {X Y : Type 0} (g : Y → ℕ) (f : X → Y) (xs : List X) → sum_by g (map f xs) ≡ sum_by (λ x. g (f x)) xs
sum_of_map g f [] = refl
sum_of_map g f (x ∷ xs) = omega (arith, sum_by-cons g (f x) (map f xs), sum_by-cons (λ x. g (f x)) x xs, sum_of_map g f xs)

sum_of_fewer : {X : Type 0} (f : X → ℕ) (xs : List X) (i : ℕ) → sum_by f (remove xs i) ≤ sum_by f xs
sum_of_fewer f [] zero = omega arith
sum_of_fewer f [] (suc i) = omega arith
sum_of_fewer f (x ∷ xs) zero = omega (arith, sum_by-cons f x xs)
sum_of_fewer f (x ∷ xs) (suc i) = omega (arith, sum_by-cons f x xs, sum_by-cons f x (remove xs i), sum_of_fewer f xs i)

two_terms : {X : Type 0} (f : X → ℕ) (xs : List X) (i j : ℕ) (d : X) → i < j → j < length xs → f (get_or xs i d) + f (get_or xs j d) ≤ sum_by f xs
two_terms f xs i j d lt h =
    omega (arith, sum_by_more_le f xs j d h, get_or-le-sum_by f (take j xs) i d (omega (arith, length-take-le j xs (omega arith))), ap f (get_or-take j xs i d lt))

module _ {X : Type 0} (test : X → Bool) where
  abbrev one : X → ℕ
  one x = cond (test x) 1 0

  none_counted : (xs : List X) → list_any test xs ≡ false → count_by test xs ≡ 0
  none_counted [] h = refl
  none_counted (x ∷ xs) h = grind (arith, sum_by-cons one x xs, none_counted xs)

  some_counted : (xs : List X) → list_any test xs ≡ true → 1 ≤ count_by test xs
  some_counted [] h = absurd (true≢false (sym h))
  some_counted (x ∷ xs) h = grind (arith, sum_by-cons one x xs, some_counted xs)

-- how often n stands in a list
abbrev pub count : ℕ → List ℕ → ℕ
count n ks = count_by (λ (k : ℕ). k == n) ks

pub once_from_differ : (ks : List ℕ) → all_differ ks ≡ true → (n : ℕ) → count n ks ≤ 1
once_from_differ [] h n = omega arith
once_from_differ (k ∷ ks) h n =
    let a = and_parts (not (has k ks)) (all_differ ks) h in
    grind (arith, sum_by-cons (one (λ (j : ℕ). j == n)) k ks, none_counted (λ (j : ℕ). j == n) ks, once_from_differ ks a.1 n)

pub differ_from_once : (ks : List ℕ) → ((n : ℕ) → count n ks ≤ 1) → all_differ ks ≡ true
differ_from_once [] h = refl
differ_from_once (k ∷ ks) h =
    let others = differ_from_once ks (λ n. omega (arith, h n, sum_by-cons (one (λ (j : ℕ). j == n)) k ks)) in
    grind (arith, h k, sum_by-cons (one (λ (j : ℕ). j == k)) k ks, some_counted (λ (j : ℕ). j == k) ks)

module _ (n : ℕ) where
  abbrev named : Task → Bool
  named x = x.number == n

  abbrev seats_it : Seat → Bool
  seats_it s = s.task.number == n

  abbrev in_list : List Seat → ℕ
  in_list ss = count_by named (tasks_of ss)

  counted : (b : Lists) → count n (numbers b) ≡ sum_by in_list b
  counted [] = refl
  counted (ss ∷ b) = grind (arith, sum_by-append (one (λ (k : ℕ). k == n)) (numbers_of (tasks_of ss)) (numbers b), sum_of_map (one (λ (k : ℕ). k == n)) (λ (x : Task). x.number) (tasks_of ss), sum_by-cons in_list ss b, counted b)

  counted_set : (b : Lists) (p : ℕ) (new : List Seat) → p < length b → count n (numbers (set b p new)) + in_list (get_or b p []) ≡ count n (numbers b) + in_list new
  counted_set b p new lt = omega (arith, counted b, counted (set b p new), sum_by-set in_list b p new [] lt)

  pub seated_none : (b : Lists) → seated n b ≡ false → count n (numbers b) ≡ 0
  seated_none [] h = refl
  seated_none (ss ∷ b) h = grind (arith, counted (ss ∷ b), counted b, sum_by-cons in_list ss b, sum_of_map (one named) (λ (s : Seat). s.task) ss, none_counted seats_it ss, seated_none b)

  -- a seat of the task of this number, and two of them
  number_in : (ss : List Seat) (i : ℕ) → i < length ss → (get_or ss i no_seat).task.number ≡ n → 1 ≤ in_list ss
  number_in ss i h e = grind (arith, sum_of_map (one named) (λ (s : Seat). s.task) ss, get_or-le-sum_by (one seats_it) ss i no_seat h)

  number_twice : (ss : List Seat) (i j : ℕ) → i < j → j < length ss → (get_or ss i no_seat).task.number ≡ n → (get_or ss j no_seat).task.number ≡ n → 2 ≤ in_list ss
  number_twice ss i j lt h e f = grind (arith, sum_of_map (one named) (λ (s : Seat). s.task) ss, two_terms (one seats_it) ss i j no_seat lt h)

  list_in : (b : Lists) (p : ℕ) → p < length b → in_list (get_or b p []) ≤ count n (numbers b)
  list_in b p h = omega (arith, counted b, get_or-le-sum_by in_list b p [] h)

  lists_twice : (b : Lists) (p q : ℕ) → p < q → q < length b → in_list (get_or b p []) + in_list (get_or b q []) ≤ count n (numbers b)
  lists_twice b p q lt h = omega (arith, counted b, two_terms in_list b p q [] lt h)

pub differ_joined : (b : Lists) (p : ℕ) (x : Task) (new : List Seat) → p < length b → all_differ (numbers b) ≡ true → seated x.number b ≡ false
    → tasks_of new ≡ joined x (tasks_of (get_or b p [])) → all_differ (numbers (set b p new)) ≡ true
differ_joined b p x new lt old none e = differ_from_once (numbers (set b p new)) (λ n.
    let ts = tasks_of (get_or b p []) in
    let c = ap (count_by (named n)) (e ∙ joined_at_place x ts) ∙ sum_by-insert (one (named n)) ts (place_of x ts) x in
    grind (arith, counted_set n b p new lt, seated_none n b, once_from_differ (numbers b) old n))

pub differ_left : (b : Lists) (p i : ℕ) (new : List Seat) → p < length b → all_differ (numbers b) ≡ true → tasks_of new ≡ remove (tasks_of (get_or b p [])) i → all_differ (numbers (set b p new)) ≡ true
differ_left b p i new lt old e = differ_from_once (numbers (set b p new)) (λ n.
    let c = ap (count_by (named n)) e in
    omega (arith, counted_set n b p new lt, sum_of_fewer (one (named n)) (tasks_of (get_or b p [])) i, once_from_differ (numbers b) old n))

pub differ_none : (m : ℕ) → all_differ (numbers (replicate m [])) ≡ true
differ_none zero = refl
differ_none (suc m) = differ_none m

pub is_seated_there : (n : ℕ) (b : Lists) (p i : ℕ) → p < length b → i < length (get_or b p []) → (get_or (get_or b p []) i no_seat).task.number ≡ n → seated n b ≡ false → ⊥
is_seated_there n b p i hp hi e none = omega (arith, seated_none n b none, list_in n b p hp, number_in n (get_or b p []) i hi e)

module _ (n : ℕ) (b : Lists) (old : all_differ (numbers b) ≡ true) where
  pub one_list : (p q i j : ℕ) → p < length b → q < length b → i < length (get_or b p []) → j < length (get_or b q []) → (get_or (get_or b p []) i no_seat).task.number ≡ n → (get_or (get_or b q []) j no_seat).task.number ≡ n → p ≡ q
  one_list p q i j hp hq hi hj e f = grind (arith, number_in n (get_or b p []) i hi e, number_in n (get_or b q []) j hj f, once_from_differ (numbers b) old n, lists_twice n b p q, lists_twice n b q p)

  pub one_place : (p i j : ℕ) → p < length b → i < length (get_or b p []) → j < length (get_or b p []) → (get_or (get_or b p []) i no_seat).task.number ≡ n → (get_or (get_or b p []) j no_seat).task.number ≡ n → i ≡ j
  one_place p i j hp hi hj e f = grind (arith, once_from_differ (numbers b) old n, list_in n b p hp, number_twice n (get_or b p []) i j, number_twice n (get_or b p []) j i)
