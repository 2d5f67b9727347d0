-- Releases that come one by one, and the cursor over them.
use Rattle.std.proofs.Common.{◌≡◌, ℕ, zero, suc, ◌+◌, ◌-◌, ◌<◌, ◌≤◌, Bool, true, false, cond, ◌&&◌, ◌||◌, eqb, ltb, List, [], ◌∷◌, ◌++◌, length, get_or, Some, None, take, drop, take_while, set, sym, refl, ap, ◌∙◌, inl, inr, add-zero, zero-add, arith}
use Rattle.std.proofs.lemmas.List.{take_more, take-append-drop, length-take-le, length-drop, length-set, get_or-take, get_or-drop, get_or-set_same, get_or-set_other, ext_get_or}
use Rattle.std.proofs.lemmas.Bool.{and_parts, and_cases, and_left, and_right, or_right, ltb-true, ltb-false, eqb-true, eqb-false, eq-eqb, ne_eqb, cases_eq, cases_lt, cond-true}
use Rattle.tasks.specs.declared.task.Task.{Task}
use Rattle.tasks.specs.Demand.{no_task}
use Rattle.machine.specs.declared.state.State.{State}
use Rattle.machine.specs.declared.state.State.TheVariants.{Idle}
use Rattle.machine.specs.declared.state.Release.{Release}
use Rattle.machine.specs.Machine.{due, with_releases, first_missed, busy_tick, served, at_instant, missed, went}
use Rattle.machine.specs.Events.{fresh}
use Rattle.machine.specs.Cursor.{Cursor, Orderly, no_release}
use Rattle.machine.specs.Moments.{is_now}
use Rattle.std.specs.List.{prefix_len}
use Rattle.std.proofs.lemmas.List.Sums.{prefix_len_passes, prefix_len_stops, prefix_len-le-length}
use Rattle.std.proofs.lemmas.List.Folds.{length-prefix_len}

-- the places that a list releases, element by element

pub due_none : (rs : List Release) (p t : ℕ) → ((k : ℕ) → k < length rs → (get_or rs k no_release).instant.0 ≡ t → ⊥) → due rs p t ≡ false
due_none [] p t h = refl
due_none (r ∷ rs) p t h =
    let a : (eqb r.place p && eqb r.instant.0 t) ≡ false = and_right (eqb r.place p) (eqb r.instant.0 t) (ne_eqb r.instant.0 t (h 0 (omega arith))) in
    let b : due rs p t ≡ false = due_none rs p t (λ k l. h (suc k) (omega arith)) in
    rw a b

or_false : (x : Bool) → (x || false) ≡ x
or_false true = refl
or_false false = refl

or_assoc : (x y z : Bool) → ((x || y) || z) ≡ (x || (y || z))
or_assoc true y z = refl
or_assoc false y z = refl

pub due_append : (rs qs : List Release) (p t : ℕ) → due (rs ++ qs) p t ≡ (due rs p t || due qs p t)
due_append [] qs p t = refl
due_append (r ∷ rs) qs p t = ap (λ b. (eqb r.place p && eqb r.instant.0 t) || b) (due_append rs qs p t) ∙ sym (or_assoc (eqb r.place p && eqb r.instant.0 t) (due rs p t) (due qs p t))

due_push : (rs : List Release) (r : Release) (p t : ℕ) (b : Bool) → (eqb r.place p && eqb r.instant.0 t) ≡ b → due (rs ++ r ∷ []) p t ≡ (due rs p t || b)
due_push rs r p t b e = due_append rs (r ∷ []) p t ∙ ap (λ x. due rs p t || x) (or_false (eqb r.place p && eqb r.instant.0 t) ∙ e)

-- the states with releases, place by place

pub length-with : (rs : List Release) (t p : ℕ) (ts : List Task) (ss : List State) → length (with_releases rs t p ts ss) ≡ length ss
length-with rs t p [] ss = refl
length-with rs t p (x ∷ ts) [] = refl
length-with rs t p (x ∷ ts) (s ∷ ss) = ap suc (length-with rs t (suc p) ts ss)

pub with_at : (rs : List Release) (t p k : ℕ) (ts : List Task) (ss : List State) → length ss ≡ length ts → k < length ts
    → get_or (with_releases rs t p ts ss) k Idle ≡ cond (due rs (p + k) t) (fresh (get_or ts k no_task) t) (get_or ss k Idle)
with_at rs t p k [] ss e l = absurd (omega arith)
with_at rs t p k (x ∷ ts) [] e l = absurd (omega arith)
with_at rs t p zero (x ∷ ts) (s ∷ ss) e l = rw (add-zero p)
with_at rs t p (suc k) (x ∷ ts) (s ∷ ss) e l =
    let q : p + suc k ≡ suc p + k = omega arith in
    rw q (with_at rs t (suc p) k ts ss (omega arith) (omega arith))

pub with_at_0 : (rs : List Release) (t k : ℕ) (ts : List Task) (ss : List State) → length ss ≡ length ts → k < length ts
    → get_or (with_releases rs t 0 ts ss) k Idle ≡ cond (due rs k t) (fresh (get_or ts k no_task) t) (get_or ss k Idle)
with_at_0 rs t k ts ss e l = with_at rs t 0 k ts ss e l ∙ ap (λ n. cond (due rs n t) (fresh (get_or ts k no_task) t) (get_or ss k Idle)) (zero-add k)

pub with_same : (rs qs : List Release) (t p : ℕ) (ts : List Task) (ss : List State) → ((k : ℕ) → due rs k t ≡ due qs k t) → with_releases rs t p ts ss ≡ with_releases qs t p ts ss
with_same rs qs t p [] ss h = refl
with_same rs qs t p (x ∷ ts) [] h = refl
with_same rs qs t p (x ∷ ts) (s ∷ ss) h =
    let a = h p in
    let b = with_same rs qs t (suc p) ts ss h in
    cc

pub with_none : (rs : List Release) (t p : ℕ) (ts : List Task) (ss : List State) → ((k : ℕ) → due rs k t ≡ false) → with_releases rs t p ts ss ≡ ss
with_none rs t p [] ss h = refl
with_none rs t p (x ∷ ts) [] h = refl
with_none rs t p (x ∷ ts) (s ∷ ss) h = rw h (ap (λ l. s ∷ l) (with_none rs t (suc p) ts ss h))

-- one more release now: its task gets a job
pub with_push : (rs : List Release) (r : Release) (t : ℕ) (ts : List Task) (ss : List State) → length ss ≡ length ts → r.place < length ts → r.instant.0 ≡ t
    → with_releases (rs ++ r ∷ []) t 0 ts ss ≡ set (with_releases rs t 0 ts ss) r.place (fresh (get_or ts r.place no_task) t)
with_push rs r t ts ss e l now =
    let new = fresh (get_or ts r.place no_task) t in
    let old = with_releases rs t 0 ts ss in
    let n = length-with (rs ++ r ∷ []) t 0 ts ss in
    let o = length-with rs t 0 ts ss in
    ext_get_or Idle (with_releases (rs ++ r ∷ []) t 0 ts ss) (set old r.place new) (n ∙ sym (length-set old r.place new ∙ o))
    (λ k lt. elim (cases_eq k r.place) [
      | inl q ↦
          let d : due (rs ++ r ∷ []) k t ≡ true =
          due_push rs r k t true (ap (λ b. b && eqb r.instant.0 t) (eq-eqb r.place k (sym q)) ∙ eq-eqb r.instant.0 t now) ∙ or_right (due rs k t) true refl
          in
          let a = with_at_0 (rs ++ r ∷ []) t k ts ss e (omega arith) ∙ cond-true (due (rs ++ r ∷ []) k t) (fresh (get_or ts k no_task) t) (get_or ss k Idle) d in
          a ∙ ap (λ j. fresh (get_or ts j no_task) t) q ∙ sym (ap (λ j. get_or (set old r.place new) j Idle) q ∙ get_or-set_same old r.place new Idle (omega arith))
      | inr q ↦
          let d : due (rs ++ r ∷ []) k t ≡ due rs k t =
          due_push rs r k t false (and_left (eqb r.place k) (eqb r.instant.0 t) (ne_eqb r.place k (λ z. q (sym z)))) ∙ or_false (due rs k t)
          in
          with_at_0 (rs ++ r ∷ []) t k ts ss e (omega arith) ∙ ap (λ b. cond b (fresh (get_or ts k no_task) t) (get_or ss k Idle)) d ∙ sym (with_at_0 rs t k ts ss e (omega arith))
          ∙ sym (get_or-set_other old r.place k new Idle q)
    ])

-- one more release that is not now: nothing changes
pub with_past : (rs : List Release) (r : Release) (t : ℕ) (ts : List Task) (ss : List State) → (r.instant.0 ≡ t → ⊥) → with_releases (rs ++ r ∷ []) t 0 ts ss ≡ with_releases rs t 0 ts ss
with_past rs r t ts ss n =
    with_same (rs ++ r ∷ []) rs t 0 ts ss (λ k. due_push rs r k t false (and_right (eqb r.place k) (eqb r.instant.0 t) (ne_eqb r.instant.0 t n)) ∙ or_false (due rs k t))

-- In a list whose instants never fall, the releases that are now are those from the cursor on up to the first that is not.

module _ (ts : List Task) (rs : List Release) (t i : ℕ) (o : Orderly ts rs) (c : Cursor rs i t) where
  abbrev left : List Release
  left = drop i rs

  abbrev count : ℕ
  count = prefix_len (is_now t) left

  counted_now : (k : ℕ) → i ≤ k → k < i + count → (get_or rs k no_release).instant.0 ≡ t
  counted_now k a b =
      let q : i + (k - i) ≡ k = omega arith in
      let g : get_or left (k - i) no_release ≡ get_or rs k no_release = get_or-drop i rs (k - i) no_release ∙ ap (λ j. get_or rs j no_release) q in
      eqb-true (get_or rs k no_release).instant.0 t (sym (ap (is_now t) g) ∙ prefix_len_passes (is_now t) left (k - i) no_release (omega arith))

  later : (k : ℕ) → i + count ≤ k → k < length rs → t < (get_or rs k no_release).instant.0
  later k a b =
      let first = (get_or rs (i + count) no_release).instant.0 in
      let stops = prefix_len_stops (is_now t) left no_release (omega (arith, length-drop i rs)) in
      let not_now = eqb-false first t (sym (ap (is_now t) (get_or-drop i rs count no_release)) ∙ stops) in
      let ahead = c.ahead (i + count) (omega arith) (omega arith) in
      let rise = o.rise (i + count) k a b in
      elim (cases_lt t first) [ inl z ↦ omega arith | inr z ↦ absurd (not_now (omega arith)) ]

  none_before : (p : ℕ) → due (take i rs) p t ≡ false
  none_before p =
      due_none (take i rs) p t (λ k l e.
      let n : length (take i rs) ≡ i = length-take-le i rs c.within in
      let g = ap (λ r. r.instant.0) (get_or-take i rs k no_release (omega arith)) in
      let b = c.gone k (omega arith) in
      omega (arith, g, e, b))

  none_behind : (p : ℕ) → due (drop count left) p t ≡ false
  none_behind p =
      due_none (drop count left) p t (λ k l e.
      let n = length-drop count left in
      let m = length-drop i rs in
      let g = ap (λ r. r.instant.0) (get_or-drop count left k no_release) in
      let f = ap (λ r. r.instant.0) (get_or-drop i rs (count + k) no_release) in
      let b = later (i + (count + k)) (omega arith) (omega arith) in
      omega (arith, g, f, e, b))

  due_now : (p : ℕ) → due (take_while (is_now t) left) p t ≡ due rs p t
  due_now p =
      sym (or_false (due (take count left) p t)) ∙ ap (λ b. due (take count left) p t || b) (sym (none_behind p)) ∙ sym (due_append (take count left) (drop count left) p t)
      ∙ ap (λ l. due l p t) (take-append-drop count left) ∙ ap (λ b. b || due left p t) (sym (none_before p)) ∙ sym (due_append (take i rs) left p t) ∙ ap (λ l. due l p t) (take-append-drop i rs)

  with_now : (ss : List State) → with_releases (take_while (is_now t) left) t 0 ts ss ≡ with_releases rs t 0 ts ss
  with_now ss = with_same (take_while (is_now t) left) rs t 0 ts ss due_now

  pub instant_now : (ss : List State) → at_instant ts (take_while (is_now t) left) t ss ≡ at_instant ts rs t ss
  instant_now ss = ap (λ ready. elim (first_missed t 0 ss) [ Some place ↦ missed place | None ↦ went (busy_tick ready) (served ready) ]) (with_now ss)

  pub cursor_on : Cursor rs (i + length (take_while (is_now t) left)) (t + 1)
  cursor_on =
      let n = length-prefix_len (is_now t) left in
      let m = prefix_len-le-length (is_now t) left in
      let d = length-drop i rs in
      record {
        within = omega (arith, n, m, d, c.within);
        gone = λ k l. elim (cases_lt k i) [ inl z ↦ omega (arith, c.gone k z) | inr z ↦ omega (arith, counted_now k z (omega arith)) ];
        ahead = λ k a b. omega (arith, later k (omega arith) b);
      }

-- one turn of the loop over any release list: a release that is not now, or not of a task of the list, changes nothing

pub with_outside : (rs : List Release) (r : Release) (t : ℕ) (ts : List Task) (ss : List State) → length ss ≡ length ts → length ts ≤ r.place → with_releases (rs ++ r ∷ []) t 0 ts ss ≡ with_releases rs t 0 ts ss
with_outside rs r t ts ss e l =
    let n = length-with (rs ++ r ∷ []) t 0 ts ss in
    ext_get_or Idle (with_releases (rs ++ r ∷ []) t 0 ts ss) (with_releases rs t 0 ts ss) (n ∙ sym (length-with rs t 0 ts ss))
    (λ k lt.
    let d = due_push rs r k t false (and_left (eqb r.place k) (eqb r.instant.0 t) (ne_eqb r.place k (λ z. omega arith))) ∙ or_false (due rs k t) in
    with_at_0 (rs ++ r ∷ []) t k ts ss e (omega arith) ∙ ap (λ b. cond b (fresh (get_or ts k no_task) t) (get_or ss k Idle)) d ∙ sym (with_at_0 rs t k ts ss e (omega arith)))

module _ (ts : List Task) (rs : List Release) (t : ℕ) (old : List State) (e : length old ≡ length ts) (i : ℕ) (lt : i < length rs) where
  abbrev the_release : Release
  the_release = get_or rs i no_release

  pub any_comes : (ss : List State) → ss ≡ with_releases (take i rs) t 0 ts old → true ≡ (eqb the_release.instant.0 t && ltb the_release.place (length ts))
      → set ss the_release.place (fresh (get_or ts the_release.place no_task) t) ≡ with_releases (take (i + 1) rs) t 0 ts old
  any_comes ss inv c =
      let w = and_parts (eqb the_release.instant.0 t) (ltb the_release.place (length ts)) (sym c) in
      ap (λ l. set l the_release.place (fresh (get_or ts the_release.place no_task) t)) inv
      ∙ sym (with_push (take i rs) the_release t ts old e (ltb-true the_release.place (length ts) w.1) (eqb-true the_release.instant.0 t w.0))
      ∙ ap (λ l. with_releases l t 0 ts old) (sym (take_more rs i no_release lt))

  pub any_stays : (ss : List State) → ss ≡ with_releases (take i rs) t 0 ts old → false ≡ (eqb the_release.instant.0 t && ltb the_release.place (length ts))
      → ss ≡ with_releases (take (i + 1) rs) t 0 ts old
  any_stays ss inv c =
      inv ∙ sym (elim (and_cases (eqb the_release.instant.0 t) (ltb the_release.place (length ts)) (sym c)) [
        | inl a ↦ with_past (take i rs) the_release t ts old (eqb-false the_release.instant.0 t a)
        | inr b ↦ with_outside (take i rs) the_release t ts old e (ltb-false the_release.place (length ts) b)
      ]) ∙ ap (λ l. with_releases l t 0 ts old) (sym (take_more rs i no_release lt))
