-- The synchronous releases are lawful, and release each task at every multiple of its period and at no other instant.
use Rattle.std.proofs.Common.{◌≡◌, ℕ, zero, suc, ◌+◌, ◌*◌, ◌/◌, ◌%◌, ◌<◌, ◌≤◌, true, ◌&&◌, eqb, ◌⊎◌, List, [], ◌∷◌, ◌++◌, length, get_or, take, sym, refl, subst, inl, inr, suc-mul, div-add-mod', zero-add, arith, length-take, get_or-take, All, ◌∙◌}
use Rattle.std.proofs.lemmas.Nat.{mul-le}
use Rattle.std.proofs.lemmas.Bool.{or_left, or_right, and_from, eq-eqb, eqb-true, cond_both, cases_lt}
use Rattle.std.proofs.lemmas.List.Elements.{All-nil, All-cons, All-head, All-tail, All-append, All-weaker}
use Rattle.tasks.specs.declared.task.Task.{Task}
use Rattle.tasks.specs.Demand.{no_task}
use Rattle.machine.specs.declared.state.Release.{Release}
use Rattle.machine.specs.Machine.{due}
use Rattle.machine.specs.Lawful.{lawful}
use Rattle.schedule.specs.Synchronous.{together, synchronous}
use Rattle.schedule.specs.Necessary.{SynchronousIsAllMultiples, SynchronousIsLawful}
use Rattle.machine.proofs.Coming.{due_append}
use Rattle.machine.proofs.Separated.{Follows}
use Rattle.machine.proofs.Job.{due_find}
use Rattle.schedule.proofs.Parts.{Within, Ordered, lawful_parts, lawful_from}

pub multiples_apart : (p a b : ℕ) → a % p ≡ 0 → b % p ≡ 0 → a < b → a + p ≤ b
multiples_apart p a b ea eb l = go (cases_lt (a / p) (b / p))
  where
    go : (a / p < b / p) ⊎ (b / p ≤ a / p) → a + p ≤ b
    go (inl h) =
        let m : suc (a / p) * p ≤ b / p * p = mul-le (suc (a / p)) p (b / p) p h (omega arith) in
        omega (arith, div-add-mod' a p, div-add-mod' b p, suc-mul (a / p) p)
    go (inr h) =
        let m : b / p * p ≤ a / p * p = mul-le (b / p) p (a / p) p h (omega arith) in
        absurd (omega (arith, div-add-mod' a p, div-add-mod' b p))

-- what the releases at one instant are
pub record Multiple (us : List Task) (p now : ℕ) (r : Release) : Type 0 where
  pub at : ℕ
  pub inside : at < length us
  pub place : r.place ≡ p + at
  pub instant : r.instant.0 ≡ now
  pub whole : now % (get_or us at no_task).period.0 ≡ 0

weaker : (u : Task) (us : List Task) (p now : ℕ) (rs : List Release) → All (Multiple us (suc p) now) rs → All (Multiple (u ∷ us) p now) rs
weaker u us p now rs a = All-weaker (Multiple us (suc p) now) (Multiple (u ∷ us) p now)
    (λ r m. record { at = suc m.at; inside = omega (arith, m.inside); place = omega (arith, m.place); instant = m.instant; whole = m.whole }) rs a

together_all : (now p : ℕ) (us : List Task) → All (Multiple us p now) (together now p us)
together_all now p [] = All-nil (Multiple [] p now)
together_all now p (u ∷ us) =
    let ih = weaker u us p now (together now (suc p) us) (together_all now (suc p) us) in
    cond_both (eqb (now % u.period.0) 0) (record { place = p; instant = record { 0 = now } } ∷ together now (suc p) us) (together now (suc p) us) (λ rs. All (Multiple (u ∷ us) p now) rs)
    (λ e. All-cons (Multiple (u ∷ us) p now) (record { place = p; instant = record { 0 = now } }) (together now (suc p) us) (record { at = 0; inside = omega arith; place = omega arith; instant = refl; whole = eqb-true (now % u.period.0) 0 e }) ih)
    (λ e. ih)

together_ordered : (ts : List Task) (now p : ℕ) (us : List Task) → Ordered ts (together now p us)
together_ordered ts now p [] = tt
together_ordered ts now p (u ∷ us) =
    let ih = together_ordered ts now (suc p) us in
    let others = All-weaker (Multiple us (suc p) now) (Follows ts (record { place = p; instant = record { 0 = now } }))
    (λ r m. record { later = omega (arith, m.instant); apart = λ e. absurd (omega (arith, m.place)) }) (together now (suc p) us) (together_all now (suc p) us) in
    cond_both (eqb (now % u.period.0) 0) (record { place = p; instant = record { 0 = now } } ∷ together now (suc p) us) (together now (suc p) us) (λ rs. Ordered ts rs)
    (λ e. (others, ih)) (λ e. ih)

-- what all the releases are
pub record Synced (ts : List Task) (now more : ℕ) (r : Release) : Type 0 where
  pub place : r.place < length ts
  pub from : now ≤ r.instant.0
  pub before : r.instant.0 < now + more
  pub whole : r.instant.0 % (get_or ts r.place no_task).period.0 ≡ 0

multiple_synced : (ts : List Task) (now more : ℕ) (r : Release) → Multiple ts 0 now r → Synced ts now (suc more) r
multiple_synced ts now more r m =
    let e : m.at ≡ r.place = omega (arith, m.place) in
    record {
      place = omega (arith, m.place, m.inside);
      from = omega (arith, m.instant);
      before = omega (arith, m.instant);
      whole = rw m.instant (subst (λ z. now % (get_or ts z no_task).period.0 ≡ 0) e m.whole);
    }

later_synced : (ts : List Task) (now more : ℕ) (r : Release) → Synced ts (suc now) more r → Synced ts now (suc more) r
later_synced ts now more r s = record { place = s.place; from = omega (arith, s.from); before = omega (arith, s.before); whole = s.whole }

pub sync_all : (ts : List Task) (now more : ℕ) → All (Synced ts now more) (synchronous ts now more)
sync_all ts now zero = All-nil (Synced ts now 0)
sync_all ts now (suc more) = All-append (Synced ts now (suc more)) (together now 0 ts) (synchronous ts (suc now) more)
    (All-weaker (Multiple ts 0 now) (Synced ts now (suc more)) (multiple_synced ts now more) (together now 0 ts) (together_all now 0 ts))
    (All-weaker (Synced ts (suc now) more) (Synced ts now (suc more)) (later_synced ts now more) (synchronous ts (suc now) more) (sync_all ts (suc now) more))

ordered_append : (ts : List Task) (xs ys : List Release) → Ordered ts xs → Ordered ts ys → All (λ x. All (Follows ts x) ys) xs → Ordered ts (xs ++ ys)
ordered_append ts [] ys a b c = b
ordered_append ts (x ∷ xs) ys a b c = (All-append (Follows ts x) xs ys a.0 (All-head (λ x. All (Follows ts x) ys) x xs c), ordered_append ts xs ys a.1 b (All-tail (λ x. All (Follows ts x) ys) x xs c))

-- a release now, and one at a later instant
now_then : (ts : List Task) (now more : ℕ) (r q : Release) → Multiple ts 0 now r → Synced ts (suc now) more q → Follows ts r q
now_then ts now more r q m s = record { later = omega (arith, m.instant, s.from); apart = λ e. far e }
  where
    far : r.place ≡ q.place → r.instant.0 + (get_or ts r.place no_task).period.0 ≤ q.instant.0
    far e =
        let a = (multiple_synced ts now 0 r m).whole in
        let b : q.instant.0 % (get_or ts r.place no_task).period.0 ≡ 0 = subst (λ z. q.instant.0 % (get_or ts z no_task).period.0 ≡ 0) (sym e) s.whole in
        multiples_apart (get_or ts r.place no_task).period.0 r.instant.0 q.instant.0 a b (omega (arith, m.instant, s.from))

sync_ordered : (ts : List Task) (now more : ℕ) → Ordered ts (synchronous ts now more)
sync_ordered ts now zero = tt
sync_ordered ts now (suc more) = ordered_append ts (together now 0 ts) (synchronous ts (suc now) more) (together_ordered ts now 0 ts) (sync_ordered ts (suc now) more)
    (All-weaker (Multiple ts 0 now) (λ x. All (Follows ts x) (synchronous ts (suc now) more))
    (λ r m. All-weaker (Synced ts (suc now) more) (Follows ts r) (λ q s. now_then ts now more r q m s) (synchronous ts (suc now) more) (sync_all ts (suc now) more))
    (together now 0 ts) (together_all now 0 ts))

pub synchronous_is_lawful : SynchronousIsLawful
synchronous_is_lawful ts horizon = lawful_from ts horizon (synchronous ts 0 horizon) (record {
  within = All-weaker (Synced ts 0 horizon) (Within ts horizon) (λ r s. record { place = s.place; before = omega (arith, s.before) }) (synchronous ts 0 horizon) (sync_all ts 0 horizon);
  ordered = sync_ordered ts 0 horizon;
})

-- what is lawful for the first m tasks alone is lawful for the list
module _ (m : ℕ) (ts : List Task) where
  front_same : (j : ℕ) → j < length (take m ts) → get_or (take m ts) j no_task ≡ get_or ts j no_task
  front_same j l = get_or-take m ts j no_task (omega (arith, length-take m ts))

  front_within : (horizon : ℕ) (rs : List Release) → All (Within (take m ts) horizon) rs → All (Within ts horizon) rs
  front_within horizon rs a = All-weaker (Within (take m ts) horizon) (Within ts horizon) (λ r w. record { place = omega (arith, w.place, length-take m ts); before = w.before }) rs a

  front_after : (r : Release) → r.place < length (take m ts) → (rs : List Release) → All (Follows (take m ts) r) rs → All (Follows ts r) rs
  front_after r l rs a = All-weaker (Follows (take m ts) r) (Follows ts r)
      (λ q f. record { later = f.later; apart = λ e. subst (λ (z : Task). r.instant.0 + z.period.0 ≤ q.instant.0) (front_same r.place l) (f.apart e) }) rs a

  front_ordered : (horizon : ℕ) (rs : List Release) → All (Within (take m ts) horizon) rs → Ordered (take m ts) rs → Ordered ts rs
  front_ordered horizon [] a o = tt
  front_ordered horizon (r ∷ rs) a o = (front_after r (All-head (Within (take m ts) horizon) r rs a).place rs o.0, front_ordered horizon rs (All-tail (Within (take m ts) horizon) r rs a) o.1)

  pub lawful_front : (horizon : ℕ) (rs : List Release) → lawful (take m ts) horizon rs ≡ true → lawful ts horizon rs ≡ true
  lawful_front horizon rs h = let p = lawful_parts (take m ts) horizon rs h in
      lawful_from ts horizon rs (record { within = front_within horizon rs p.within; ordered = front_ordered horizon rs p.within p.ordered })

-- every multiple is due
due_left : (xs ys : List Release) (p t : ℕ) → due xs p t ≡ true → due (xs ++ ys) p t ≡ true
due_left xs ys p t h = due_append xs ys p t ∙ or_left (due xs p t) (due ys p t) h

due_right : (xs ys : List Release) (p t : ℕ) → due ys p t ≡ true → due (xs ++ ys) p t ≡ true
due_right xs ys p t h = due_append xs ys p t ∙ or_right (due xs p t) (due ys p t) h

together_due : (now p j : ℕ) (us : List Task) → j < length us → now % (get_or us j no_task).period.0 ≡ 0 → due (together now p us) (p + j) now ≡ true
together_due now p j [] l h = absurd (omega arith)
together_due now p zero (u ∷ us) l h = rw (eq-eqb (now % u.period.0) 0 h)
    (or_left (eqb p (p + 0) && eqb now now) (due (together now (suc p) us) (p + 0) now) (and_from (eqb p (p + 0)) (eqb now now) (eq-eqb p (p + 0) (omega arith)) (eq-eqb now now refl)))
together_due now p (suc j) (u ∷ us) l h =
    let q : suc p + j ≡ p + suc j = omega arith in
    let ih : due (together now (suc p) us) (p + suc j) now ≡ true = subst (λ z. due (together now (suc p) us) z now ≡ true) q (together_due now (suc p) j us (omega arith) h) in
    cond_both (eqb (now % u.period.0) 0) (record { place = p; instant = record { 0 = now } } ∷ together now (suc p) us) (together now (suc p) us) (λ rs. due rs (p + suc j) now ≡ true)
    (λ e. or_right (eqb p (p + suc j) && eqb now now) (due (together now (suc p) us) (p + suc j) now) ih) (λ e. ih)

pub sync_due : (ts : List Task) (now more p n : ℕ) → p < length ts → now ≤ n → n < now + more → n % (get_or ts p no_task).period.0 ≡ 0 → due (synchronous ts now more) p n ≡ true
sync_due ts now zero p n l a b h = absurd (omega arith)
sync_due ts now (suc more) p n l a b h = elim (cases_lt now n) [
  | inl g ↦ due_right (together now 0 ts) (synchronous ts (suc now) more) p n (sync_due ts (suc now) more p n l g (omega arith) h)
  | inr g ↦ due_left (together now 0 ts) (synchronous ts (suc now) more) p n
      (let e : n ≡ now = omega arith in
      let h' : now % (get_or ts p no_task).period.0 ≡ 0 = subst (λ z. z % (get_or ts p no_task).period.0 ≡ 0) e h in
      subst (λ z. due (together now 0 ts) p z ≡ true) (sym e) (subst (λ z. due (together now 0 ts) z now ≡ true) (zero-add p) (together_due now 0 p ts l h')))
]

pub synchronous_is_all_multiples : SynchronousIsAllMultiples
synchronous_is_all_multiples ts horizon p n = (to, λ h. sync_due ts 0 horizon p n h.0 (omega arith) (omega (arith, h.1)) h.2)
  where
    to : due (synchronous ts 0 horizon) p n ≡ true → (p < length ts) × (n < horizon) × (n % (get_or ts p no_task).period.0 ≡ 0)
    to e =
        let f = due_find (Synced ts 0 horizon) (synchronous ts 0 horizon) p n (sync_all ts 0 horizon) e in
        (omega (arith, f.holds.place, f.place), omega (arith, f.holds.before, f.instant), rw (f.instant, f.place) at f.holds.whole)
