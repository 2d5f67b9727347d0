-- Lawfulness in one pass is lawfulness by pairs.
use Rattle.std.proofs.Common.{◌≡◌, ℕ, All, zero, suc, ◌+◌, ◌^◌, ◌<◌, ◌≤◌, Bool, true, false, not, ◌&&◌, ◌||◌, eqb, ltb, leb, List, [], ◌∷◌, length, get_or, drop, set, replicate, sym, refl, ap, ◌∙◌, inl, inr, arith}
use Rattle.std.proofs.lemmas.List.Elements.{All-nil, All-cons, All-head, All-tail, All-weaker}
use Rattle.std.proofs.lemmas.List.Sums.{AllPass-from_list_all, list_all-from_AllPass}
use Rattle.std.proofs.lemmas.List.{get_or-set_same, get_or-set_other, length-set, at_drop_more, at_drop_all}
use Rattle.std.proofs.lemmas.Bool.{and_parts, and_from, or_cases, or_left, or_right, leb-true, le-leb, ltb-true, lt-ltb, eq-eqb, ne_eqb, cases_eq, not_from_false, not-true, both_ways}
use Rattle.tasks.specs.declared.task.Task.{Task}
use Rattle.tasks.specs.declared.units.Ticks.{Ticks}
use Rattle.tasks.specs.Demand.{no_task}
use Rattle.tasks.specs.Limits.{all_within}
use Rattle.tasks.proofs.Bounds.{all_limits}
use Rattle.machine.specs.declared.state.Release.{Release}
use Rattle.machine.specs.Lawful.{inside, may_follow, all_may_follow, lawful}
use Rattle.tasks.specs.Units.{no_ticks}
use Rattle.machine.specs.Separation.{may_come, lawful_after}
use Rattle.machine.specs.Cursor.{Orderly, no_release}
use Rattle.machine.specs.Moments.{deadline_fits, deadlines_fit}

pub same_truth : (x y : Bool) → (x ≡ true → y ≡ true) → (y ≡ true → x ≡ true) → x ≡ y
same_truth true y f g = sym (f refl)
same_truth false true f g = g refl
same_truth false false f g = refl

-- q may come after the releases that left `last` and `free`
abbrev pub Fine : ℕ → List Ticks → Release → Type 0
Fine last free q = may_come last (get_or free q.place no_ticks).0 q ≡ true

fine_parts : (last : ℕ) (free : List Ticks) (q : Release) → Fine last free q → (last ≤ q.instant.0) × ((get_or free q.place no_ticks).0 ≤ q.instant.0)
fine_parts last free q h =
    let w = and_parts (leb last q.instant.0) (leb (get_or free q.place no_ticks).0 q.instant.0) h in
    (leb-true last q.instant.0 w.0, leb-true (get_or free q.place no_ticks).0 q.instant.0 w.1)

fine_from : (last : ℕ) (free : List Ticks) (q : Release) → last ≤ q.instant.0 → (get_or free q.place no_ticks).0 ≤ q.instant.0 → Fine last free q
fine_from last free q a b = and_from (leb last q.instant.0) (leb (get_or free q.place no_ticks).0 q.instant.0) (le-leb last q.instant.0 a) (le-leb (get_or free q.place no_ticks).0 q.instant.0 b)

pub record Follows (ts : List Task) (r q : Release) : Type 0 where
  pub later : r.instant.0 ≤ q.instant.0
  pub apart : r.place ≡ q.place → r.instant.0 + (get_or ts r.place no_task).period.0 ≤ q.instant.0

pub follows : (ts : List Task) (r q : Release) → may_follow ts r q ≡ true → Follows ts r q
follows ts r q h =
    let i = r.instant.0 + (get_or ts r.place no_task).period.0 in
    let w = and_parts (leb r.instant.0 q.instant.0) (not (eqb r.place q.place) || leb i q.instant.0) h in
    record {
      later = leb-true r.instant.0 q.instant.0 w.0;
      apart = λ e. elim (or_cases (not (eqb r.place q.place)) (leb i q.instant.0) w.1) [
        | inl n ↦ absurd (both_ways (eqb r.place q.place) (not-true (eqb r.place q.place) n) (eq-eqb r.place q.place e))
        | inr l ↦ leb-true i q.instant.0 l
      ];
    }

pub all_follow : (ts : List Task) (r : Release) (rs : List Release) → all_may_follow ts r rs ≡ true → All (Follows ts r) rs
all_follow ts r rs h = All-weaker (λ q. may_follow ts r q ≡ true) (Follows ts r) (follows ts r) rs (AllPass-from_list_all (may_follow ts r) rs h)

may_from : (ts : List Task) (r q : Release) → r.instant.0 ≤ q.instant.0 → (not (eqb r.place q.place) || leb (r.instant.0 + (get_or ts r.place no_task).period.0) q.instant.0) ≡ true → may_follow ts r q ≡ true
may_from ts r q a b = and_from (leb r.instant.0 q.instant.0) (not (eqb r.place q.place) || leb (r.instant.0 + (get_or ts r.place no_task).period.0) q.instant.0) (le-leb r.instant.0 q.instant.0 a) b

-- what a release leaves for those after it
abbrev next_free : List Task → Release → Ticks
next_free ts r = record { 0 = r.instant.0 + (get_or ts r.place no_task).period.0 }

module _ (ts : List Task) (last : ℕ) (free : List Ticks) (r : Release) (lt : r.place < length free) (f : Fine last free r) where
  split_one : (q : Release) → Fine r.instant.0 (set free r.place (next_free ts r)) q → (may_follow ts r q ≡ true) × Fine last free q
  split_one q h =
      let w = fine_parts r.instant.0 (set free r.place (next_free ts r)) q h in
      let v = fine_parts last free r f in
      elim (cases_eq q.place r.place) [
        | inl e ↦
            let g : get_or (set free r.place (next_free ts r)) q.place no_ticks ≡ next_free ts r = ap (λ k. get_or (set free r.place (next_free ts r)) k no_ticks) e ∙ get_or-set_same free r.place (next_free ts r) no_ticks lt in
            let a = ap (λ t. t.0) g in
            let b = ap (λ k. (get_or free k no_ticks).0) e in (
              may_from ts r q w.0 (or_right (not (eqb r.place q.place)) (leb (r.instant.0 + (get_or ts r.place no_task).period.0) q.instant.0) (le-leb (r.instant.0 + (get_or ts r.place no_task).period.0) q.instant.0 (omega (arith, a, w.1)))),
              fine_from last free q (omega (arith, v.0, w.0)) (omega (arith, b, v.1, w.0)),
            )
        | inr n ↦
            let g = ap (λ t. t.0) (get_or-set_other free r.place q.place (next_free ts r) no_ticks n) in (
              may_from ts r q w.0 (or_left (not (eqb r.place q.place)) (leb (r.instant.0 + (get_or ts r.place no_task).period.0) q.instant.0) (not_from_false (eqb r.place q.place) (ne_eqb r.place q.place (λ z. n (sym z))))),
              fine_from last free q (omega (arith, v.0, w.0)) (omega (arith, g, w.1)),
            )
      ]

  join_one : (q : Release) → may_follow ts r q ≡ true → Fine last free q → Fine r.instant.0 (set free r.place (next_free ts r)) q
  join_one q m h =
      let w = fine_parts last free q h in
      let u = follows ts r q m in
      elim (cases_eq q.place r.place) [
        | inl e ↦
            let a = ap (λ t. t.0) (ap (λ k. get_or (set free r.place (next_free ts r)) k no_ticks) e ∙ get_or-set_same free r.place (next_free ts r) no_ticks lt) in
            fine_from r.instant.0 (set free r.place (next_free ts r)) q u.later (omega (arith, a, u.apart (sym e)))
        | inr n ↦
            let g = ap (λ t. t.0) (get_or-set_other free r.place q.place (next_free ts r) no_ticks n) in
            fine_from r.instant.0 (set free r.place (next_free ts r)) q u.later (omega (arith, g, w.1))
      ]

  split : (rs : List Release) → All (Fine r.instant.0 (set free r.place (next_free ts r))) rs → (all_may_follow ts r rs ≡ true) × All (Fine last free) rs
  split rs a = (list_all-from_AllPass (may_follow ts r) rs (λ k d lt. (split_one (get_or rs k d) (a k d lt)).0), λ k d lt. (split_one (get_or rs k d) (a k d lt)).1)

  join : (rs : List Release) → all_may_follow ts r rs ≡ true → All (Fine last free) rs → All (Fine r.instant.0 (set free r.place (next_free ts r))) rs
  join rs m a k d lt = join_one (get_or rs k d) (AllPass-from_list_all (may_follow ts r) rs m k d lt) (a k d lt)

place_of : (ts : List Task) (h : ℕ) (r : Release) → inside ts h r ≡ true → r.place < length ts
place_of ts h r e = ltb-true r.place (length ts) (and_parts (ltb r.place (length ts)) (ltb r.instant.0 h) e).0

to_pairs : (ts : List Task) (h last : ℕ) (free : List Ticks) (rs : List Release) → length ts ≤ length free → lawful_after ts h last free rs ≡ true → (lawful ts h rs ≡ true) × All (Fine last free) rs
to_pairs ts h last free [] n e = (refl, All-nil (Fine last free))
to_pairs ts h last free (r ∷ rs) n e =
    let free' = set free r.place (next_free ts r) in
    let tail = lawful_after ts h r.instant.0 free' rs in
    let may = may_come last (get_or free r.place no_ticks).0 r in
    let w = and_parts (inside ts h r) (may && tail) e in
    let v = and_parts may tail w.1 in
    let ih = to_pairs ts h r.instant.0 free' rs (omega (arith, length-set free r.place (next_free ts r))) v.1 in
    let s = split ts last free r (omega (arith, place_of ts h r w.0)) v.0 rs ih.1 in
    (and_from (inside ts h r) (all_may_follow ts r rs && lawful ts h rs) w.0 (and_from (all_may_follow ts r rs) (lawful ts h rs) s.0 ih.0), All-cons (Fine last free) r rs v.0 s.1)

from_pairs : (ts : List Task) (h last : ℕ) (free : List Ticks) (rs : List Release) → length ts ≤ length free → lawful ts h rs ≡ true → All (Fine last free) rs → lawful_after ts h last free rs ≡ true
from_pairs ts h last free [] n e a = refl
from_pairs ts h last free (r ∷ rs) n e a =
    let free' = set free r.place (next_free ts r) in
    let tail = lawful_after ts h r.instant.0 free' rs in
    let may = may_come last (get_or free r.place no_ticks).0 r in
    let w = and_parts (inside ts h r) (all_may_follow ts r rs && lawful ts h rs) e in
    let v = and_parts (all_may_follow ts r rs) (lawful ts h rs) w.1 in
    let now = All-head (Fine last free) r rs a in
    let j = join ts last free r (omega (arith, place_of ts h r w.0)) now rs v.0 (All-tail (Fine last free) r rs a) in
    let ih = from_pairs ts h r.instant.0 free' rs (omega (arith, length-set free r.place (next_free ts r))) v.1 j in
    and_from (inside ts h r) (may && tail) w.0 (and_from may tail now ih)

-- in a list of one value, each place has it, also past the end
pub replicated_at : {X : Type 0} → (n k : ℕ) (x : X) → get_or (replicate n x) k x ≡ x
replicated_at zero k x = refl
replicated_at (suc n) zero x = refl
replicated_at (suc n) (suc k) x = replicated_at n k x

fine_all : (n : ℕ) (rs : List Release) → All (Fine 0 (replicate n no_ticks)) rs
fine_all n rs k d lt = let q = get_or rs k d in fine_from 0 (replicate n no_ticks) q (omega arith) (omega (arith, ap (λ t. t.0) (replicated_at n q.place no_ticks)))

pub one_pass : (ts : List Task) (h n : ℕ) (rs : List Release) → length ts ≤ length (replicate n no_ticks) → lawful_after ts h 0 (replicate n no_ticks) rs ≡ lawful ts h rs
one_pass ts h n rs l =
    same_truth (lawful_after ts h 0 (replicate n no_ticks) rs) (lawful ts h rs) (λ e. (to_pairs ts h 0 (replicate n no_ticks) rs l e).0) (λ e. from_pairs ts h 0 (replicate n no_ticks) rs l e (fine_all n rs))

-- a lawful list, release by release

pub lawful_parts : (ts : List Task) (h : ℕ) (r : Release) (rs : List Release) → lawful ts h (r ∷ rs) ≡ true → (inside ts h r ≡ true) × All (Follows ts r) rs × (lawful ts h rs ≡ true)
lawful_parts ts h r rs e =
    let w = and_parts (inside ts h r) (all_may_follow ts r rs && lawful ts h rs) e in
    let v = and_parts (all_may_follow ts r rs) (lawful ts h rs) w.1 in
    (w.0, all_follow ts r rs v.0, v.1)

orderly_places : (ts : List Task) (h : ℕ) (rs : List Release) → lawful ts h rs ≡ true → (k : ℕ) → k < length rs → (get_or rs k no_release).place < length ts
orderly_places ts h [] e k l = absurd (omega arith)
orderly_places ts h (r ∷ rs) e zero l = place_of ts h r (lawful_parts ts h r rs e).0
orderly_places ts h (r ∷ rs) e (suc k) l = orderly_places ts h rs (lawful_parts ts h r rs e).2 k (omega arith)

orderly_rise : (ts : List Task) (h : ℕ) (rs : List Release) → lawful ts h rs ≡ true → (j k : ℕ) → j ≤ k → k < length rs → (get_or rs j no_release).instant.0 ≤ (get_or rs k no_release).instant.0
orderly_rise ts h [] e j k a l = absurd (omega arith)
orderly_rise ts h (r ∷ rs) e zero zero a l = omega arith
orderly_rise ts h (r ∷ rs) e zero (suc k) a l = ((lawful_parts ts h r rs e).1 k no_release (omega arith)).later
orderly_rise ts h (r ∷ rs) e (suc j) zero a l = absurd (omega arith)
orderly_rise ts h (r ∷ rs) e (suc j) (suc k) a l = orderly_rise ts h rs (lawful_parts ts h r rs e).2 j k (omega arith) (omega arith)

pub orderly : (ts : List Task) (h : ℕ) (rs : List Release) → lawful ts h rs ≡ true → Orderly ts rs
orderly ts h rs e = record { places = orderly_places ts h rs e; rise = orderly_rise ts h rs e }

-- within the limits, deadlines fit up to the largest horizon
pub near_fits : (ts : List Task) (t : ℕ) → all_within ts ≡ true → t ≤ 2000000 → deadlines_fit ts t ≡ true
near_fits ts t e l = list_all-from_AllPass (deadline_fits t) ts (λ k d lt. lt-ltb (t + (get_or ts k d).period.0) (2 ^ 32) (omega (arith, (all_limits ts e k d lt).period_to)))

-- one turn of the loop over the releases

module _ (ts : List Task) (h last : ℕ) (free : List Ticks) (rs : List Release) (i : ℕ) (inv : lawful_after ts h last free (drop i rs) ≡ lawful ts h rs) where
  abbrev at_i : Release
  at_i = get_or rs i no_release

  abbrev may_i : Bool
  may_i = may_come last (get_or free at_i.place no_ticks).0 at_i

  abbrev tail_i : Bool
  tail_i = lawful_after ts h at_i.instant.0 (set free at_i.place (next_free ts at_i)) (drop (i + 1) rs)

  turn : i < length rs → (inside ts h at_i && (may_i && tail_i)) ≡ lawful ts h rs
  turn l = sym (at_drop_more (lawful_after ts h last free) rs i no_release l) ∙ inv

  pub lawful_outside : i < length rs → false ≡ inside ts h at_i → false ≡ lawful ts h rs
  lawful_outside l e = ap (λ b. b && (may_i && tail_i)) e ∙ turn l

  pub lawful_early : i < length rs → true ≡ inside ts h at_i → false ≡ may_i → false ≡ lawful ts h rs
  lawful_early l e f = ap (λ b. b && tail_i) f ∙ ap (λ b. b && (may_i && tail_i)) e ∙ turn l

  pub lawful_more : i < length rs → true ≡ inside ts h at_i → true ≡ may_i → tail_i ≡ lawful ts h rs
  lawful_more l e f = ap (λ b. b && tail_i) f ∙ ap (λ b. b && (may_i && tail_i)) e ∙ turn l

  pub lawful_all : length rs ≤ i → true ≡ lawful ts h rs
  lawful_all l = sym (at_drop_all (lawful_after ts h last free) rs i l) ∙ inv
