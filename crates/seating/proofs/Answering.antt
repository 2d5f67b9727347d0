-- Every call has an answer.
use Rattle.std.proofs.Common.{◌≡◌, ℕ, zero, suc, ◌+◌, ◌-◌, ◌<◌, ◌≤◌, Bool, true, false, ◌||◌, ◌==◌, position, ◌⊎◌, List, [], ◌∷◌, ◌++◌, map, length, get_or, take, drop, set, Some, None, Ok, Err, Option, Result, sym, refl, ap, ◌∙◌, subst, inl, inr, ⊎_elim, arith}
use Rattle.std.specs.List.{remove}
use Rattle.std.specs.Option.{unwrap_or}
use Rattle.std.specs.List.{range_with_len}
use Rattle.std.proofs.lemmas.List.FromFn.{length-map-range_with_len, get_or-map-range_with_len}
use Rattle.std.proofs.lemmas.List.{ext_get_or, get_or-map, get_or-drop}
use Rattle.std.proofs.lemmas.List.{take-append-drop, drop_at, take_at, take-map, map-append, length-take-le, length-append, length-drop, get_or_append_left, get_or-append_right, get_or-set_same}
use Rattle.std.proofs.lemmas.Bool.{cases_lt, cases_eq, cases_Bool, not_from_false}
use Rattle.tasks.specs.declared.task.Task.{Task}
use Rattle.tasks.specs.declared.units.Ticks.{Ticks}
use Rattle.tasks.specs.Limits.{within_limits}
use Rattle.tasks.specs.Priority.{joined}
use Rattle.tasks.specs.Demand.{no_task}
use Rattle.judges.specs.Laws.{Meaning, JudgeLaws}
use Rattle.preferences.specs.Laws.{Relation, PreferenceLaws}
use Rattle.seating.specs.declared.seat.Seat.{Seat}
use Rattle.seating.specs.declared.refusal.AdmitRefusal.{AdmitRefusal}
use Rattle.seating.specs.declared.refusal.AdmitRefusal.TheVariants.{NoTaker}
use Rattle.seating.specs.declared.refusal.WithdrawRefusal.TheVariants.{NotSeated}
use Rattle.tasks.specs.Units.{no_ticks}
use Rattle.seating.specs.Seats.{Lists, tasks_of, no_seat, place_of, holds, seated, FirstSpot, Kept}
use Rattle.seating.specs.Admission.{earlier, said, on, as_seen, WouldTake, Entry, Joins, Admits, AdmitsSome}
use Rattle.seating.specs.Judging.{Given, AllGiven, FirstNone}
use Rattle.seating.specs.Withdrawal.{SitsAt, WithdrawsSome}
use Rattle.seating.proofs.Exactly.{takes_exactly, some_or_none}
use Rattle.seating.proofs.Spotting.{first_spot}
use Rattle.seating.proofs.Placing.{length-tasks, length-joined, place_le, take-joined, joined_here}

abbrev task_in : Seat → Task
task_in s = s.task

below_next : (P : ℕ → Type 0) (k : ℕ) → ((q : ℕ) → q < k → P q) → P k → (q : ℕ) → q < suc k → P q
below_next P k all here q lt = ⊎_elim (λ (l : q < k). all q l) (λ (ge : k ≤ q). let same : k ≡ q = omega arith in subst P same here) (cases_lt q k)

-- one processor would take x, or the sheet has something to say of it
module _ (meaning : Meaning) (laws : JudgeLaws meaning) (x : Task) (own : within_limits x ≡ true) (ss : List Seat) (held : Kept ss) where
  abbrev all : List Task
  all = joined x (tasks_of ss)

  abbrev place : ℕ
  place = place_of x (tasks_of ss)

  place_in : place ≤ length ss
  place_in = omega (arith, place_le x (tasks_of ss), length-tasks ss)

  walk : (d k : ℕ) → k + d ≡ length ss + 1 → place ≤ k → ((j : ℕ) → j < k → place ≤ j → Given meaning x ss j) → AllGiven meaning x ss ⊎ ((n : ℕ) × FirstNone meaning x ss n)
  walk zero k e lo given = inl (λ j a b. given j (omega arith) a)
  walk (suc d) k e lo given = ⊎_elim
      (λ (s : Given meaning x ss k). walk d (suc k) (omega arith) (omega arith) (below_next (λ j. place ≤ j → Given meaning x ss j) k given (λ _. s)))
      (λ (u : said meaning all k ≡ None). inr ((get_or all k no_task).number, record { at = k; below = lo; within = omega arith; none = u; number = refl; before = λ j a b. given j b a }))
      (some_or_none (said meaning all k))

  decide : WouldTake x ss ⊎ ((n : ℕ) × Entry x ss n)
  decide = ⊎_elim
      (λ (room : length ss < 32).
      let d = takes_exactly meaning laws x ss own held.0 held.1 room in
      ⊎_elim
      (λ (g : AllGiven meaning x ss). inl (record { room = room; fits = d.given_fits g }))
      (λ (f : (n : ℕ) × FirstNone meaning x ss n). inr (f.0, inr (room, d.first_unfit f.0 f.1)))
      (walk (length ss + 1 - place) place (omega (arith, place_in)) (omega arith) (λ j a b. absurd (omega arith))))
      (λ (full : 32 ≤ length ss). inr (0, inl (full, refl)))
      (cases_lt (length ss) 32)

  is_given : WouldTake x ss → AllGiven meaning x ss
  is_given w = (takes_exactly meaning laws x ss own held.0 held.1 w.room).fits_given w.fits

  module _ (g : AllGiven meaning x ss) where
    -- the seat at place k, and those from x down
    abbrev seat_at : ℕ → Seat
    seat_at k = record { task = get_or all k no_task; instant = unwrap_or (said meaning all k) no_ticks }

    abbrev long : ℕ
    long = length ss + 1 - place

    abbrev rest : List Seat
    rest = map seat_at (range_with_len place long)

    abbrev new : List Seat
    new = take place ss ++ rest

    rest_tasks : tasks_of rest ≡ drop place all
    rest_tasks =
        let n = length-map-range_with_len seat_at place long in
        let m = length-joined x (tasks_of ss) in
        ext_get_or no_task (tasks_of rest) (drop place all) (omega (arith, length-tasks rest, length-drop place all, length-tasks ss)) (λ k h.
        let lt : k < long = omega (arith, length-tasks rest) in
        get_or-map task_in rest k no_seat no_task (omega arith)
        ∙ ap task_in (get_or-map-range_with_len seat_at place long k (place + k) no_seat lt refl) ∙ sym (get_or-drop place all k no_task))

    new_joins : Joins meaning x ss new
    new_joins =
        let front : length (take place ss) ≡ place = length-take-le place ss place_in in
        record {
          tasks = map-append task_in (take place ss) rest
              ∙ ap (λ (l : List Task). l ++ tasks_of rest) (sym (take-map task_in place ss) ∙ sym (take-joined x (tasks_of ss) place (omega arith)))
              ∙ ap (λ (l : List Task). take place all ++ l) rest_tasks
              ∙ take-append-drop place all;
          above = take_at (take place ss) rest place front;
          judged = λ k lo hi.
              let s = g k lo hi in
              let at : get_or new k no_seat ≡ seat_at k =
              get_or-append_right (take place ss) rest place k no_seat front lo ∙ get_or-map-range_with_len seat_at place long (k - place) k no_seat (omega arith) (omega arith) in
              s.1 ∙ ap (λ (o : Option Ticks). Some (unwrap_or o no_ticks)) (sym s.1) ∙ ap (λ (y : Seat). Some y.instant) (sym at);
        }

    own_instant : (t : Ticks) × (meaning x (take place (tasks_of ss)) ≡ Some t)
    own_instant =
        let s = g place (omega arith) (omega (arith, place_in)) in (
          s.0,
          ap (λ (y : Task). meaning y (take place (tasks_of ss))) (sym (joined_here x (tasks_of ss)))
              ∙ ap (λ (l : List Task). meaning (get_or all place no_task) l) (sym (take-joined x (tasks_of ss) place (omega arith))) ∙ s.1,
        )

refuses : (x : Task) (ss : List Seat) (n : ℕ) → Entry x ss n → WouldTake x ss → ⊥
refuses x ss n (inl full) w = omega (arith, full.0, w.room)
refuses x ss n (inr f) w = f.1.unfit (w.fits f.1.at f.1.within)

-- the preferred one of the first k, or what the sheet says of each
module _ (meaning : Meaning) (laws : JudgeLaws meaning) (before : Relation) (prefers : PreferenceLaws before) (b : Lists) (held : (q : ℕ) → q < length b → Kept (on b q)) (x : Task) (own : within_limits x ≡ true) where
  abbrev AllRefuse : ℕ → Type 0
  AllRefuse k = (q : ℕ) → q < k → (n : ℕ) × Entry x (on b q) n

  abbrev Before : ℕ → ℕ → Type 0
  Before p q = (q ≡ p → ⊥) → WouldTake x (on b q) → before (as_seen b p) (as_seen b q) ≡ true

  record FirstOf (k : ℕ) : Type 0 where
    p : ℕ
    within : p < k
    takes : WouldTake x (on b p)
    first : (q : ℕ) → q < k → Before p q

  one_more : (k : ℕ) → AllRefuse k ⊎ FirstOf k → WouldTake x (on b k) ⊎ ((n : ℕ) × Entry x (on b k) n) → AllRefuse (suc k) ⊎ FirstOf (suc k)
  one_more k (inl none) (inr e) = inl (below_next (λ q. (n : ℕ) × Entry x (on b q) n) k none e)
  one_more k (inl none) (inl w) = inr (record {
    p = k;
    within = omega arith;
    takes = w;
    first = below_next (Before k) k (λ q lt ne v. absurd (refuses x (on b q) (none q lt).0 (none q lt).1 v)) (λ ne v. absurd (ne refl));
  })
  one_more k (inr f) (inr e) = inr (record { p = f.p; within = omega (arith, f.within); takes = f.takes; first = below_next (Before f.p) k f.first (λ ne v. absurd (refuses x (on b k) e.0 e.1 v)) })
  one_more k (inr f) (inl w) = ⊎_elim
      (λ (new-first : before (as_seen b k) (as_seen b f.p) ≡ true). inr (record {
        p = k;
        within = omega arith;
        takes = w;
        first = below_next (Before k) k
            (λ q lt ne v. ⊎_elim
            (λ (same : q ≡ f.p). subst (λ (i : ℕ). before (as_seen b k) (as_seen b i) ≡ true) (sym same) new-first)
            (λ (other : q ≡ f.p → ⊥). prefers.chains (as_seen b k) (as_seen b f.p) (as_seen b q) new-first (f.first q lt other v)) (cases_eq q f.p))
            (λ ne v. absurd (ne refl));
      }))
      (λ (old-first : before (as_seen b k) (as_seen b f.p) ≡ false). inr (record {
        p = f.p;
        within = omega (arith, f.within);
        takes = f.takes;
        first = below_next (Before f.p) k f.first (λ ne v. prefers.one_of_two (as_seen b f.p) (as_seen b k) (λ (e : f.p ≡ k). ne (sym e)) ∙ not_from_false _ old-first);
      }))
      (cases_Bool (before (as_seen b k) (as_seen b f.p)))

  choose : (k : ℕ) → k ≤ length b → AllRefuse k ⊎ FirstOf k
  choose zero h = inl (λ q lt. absurd (omega arith))
  choose (suc k) h = one_more k (choose k (omega arith)) (decide meaning laws x own (on b k) (held k (omega arith)))

-- the entries of the sheet
record SheetOf (x : Task) (b : Lists) : Type 0 where
  es : List ℕ
  as_many : length es ≡ length b
  each : (q : ℕ) → q < length b → Entry x (on b q) (get_or es q 0)

entries : (x : Task) (b : Lists) → ((q : ℕ) → q < length b → (n : ℕ) × Entry x (on b q) n) → SheetOf x b
entries x [] f = record { es = []; as_many = refl; each = λ q h. absurd (omega arith) }
entries x (ss ∷ b) f = go (f zero (omega arith)) (entries x b (λ q h. f (suc q) (omega arith)))
  where
    go : (n : ℕ) × Entry x ss n → SheetOf x b → SheetOf x (ss ∷ b)
    go n r = record { es = n.0 ∷ r.es; as_many = omega (arith, r.as_many); each = each_of }
      where
        each_of : (q : ℕ) → q < length (ss ∷ b) → Entry x (on (ss ∷ b) q) (get_or (n.0 ∷ r.es) q 0)
        each_of zero h = n.1
        each_of (suc q) h = r.each q (omega arith)

module _ (meaning : Meaning) (laws : JudgeLaws meaning) (before : Relation) (prefers : PreferenceLaws before) (b : Lists) (held : (q : ℕ) → q < length b → Kept (on b q)) (x : Task) (sheet : List ℕ) where
  abbrev Answered : Type 0
  Answered = (a : Result (ℕ × Ticks) AdmitRefusal) × (sheet' : List ℕ) × (b' : Lists) × Admits meaning before b x sheet a sheet' b'

  early : (e : AdmitRefusal) → earlier b x (length sheet) ≡ Some e → Answered
  early e h = (Err e, sheet, b, inl (record { cause = h; sheet_stays = refl; seats_stay = refl }))

  module _ (passes : earlier b x (length sheet) ≡ None) (own : within_limits x ≡ true) (long : length b ≤ length sheet) where
    away : AllRefuse meaning laws before prefers b held x own (length b) → Answered
    away none =
        let r = entries x b none in
        let after = drop (length b) sheet in
        let n = r.as_many in (
          Err NoTaker,
          r.es ++ after,
          b,
          inr (
            refl,
            record {
              passes = passes;
              nobody = λ q h w. refuses x (on b q) (none q h).0 (none q h).1 w;
              entries = λ q h. subst (λ (v : ℕ). Entry x (on b q) v) (sym (get_or_append_left r.es after 0 q (omega arith))) (r.each q h);
              as_long = length-append r.es after ∙ omega (arith, length-drop (length b) sheet);
              rest = drop_at r.es after (length b) n;
              seats_stay = refl;
            },
          ),
        )

    taken : FirstOf meaning laws before prefers b held x own (length b) → Answered
    taken f =
        let p = f.p in
        let g = is_given meaning laws x own (on b p) (held p f.within) f.takes in
        let l = new meaning laws x own (on b p) (held p f.within) g in
        let t = own_instant meaning laws x own (on b p) (held p f.within) g in
        let same : get_or (set b p l) p [] ≡ l = get_or-set_same b p l [] f.within in (
          Ok (p, t.0),
          sheet,
          set b p l,
          record {
            passes = passes;
            preferred = record { there = f.within; takes = f.takes; first = f.first };
            instant = t.1;
            joins = subst (λ (k : List Seat). Joins meaning x (on b p) k) (sym same) (new_joins meaning laws x own (on b p) (held p f.within) g);
            others = ap (λ (k : List Seat). set b p k) (sym same);
            sheet_stays = refl;
          },
        )

    served : Answered
    served = ⊎_elim away taken (choose meaning laws before prefers b held x own (length b) (omega arith))

  late : earlier b x (length sheet) ≡ None → Answered
  late h = served h (grind arith) (grind arith)

  any_answer : Answered
  any_answer = ⊎_elim (λ (s : (e : AdmitRefusal) × (earlier b x (length sheet) ≡ Some e)). early s.0 s.1) late (some_or_none (earlier b x (length sheet)))

pub admits_some : AdmitsSome
admits_some meaning laws before prefers b held x sheet = any_answer meaning laws before prefers b held x sheet

-- a withdrawal
record SpotOn (n : ℕ) (b : Lists) : Type 0 where
  p : ℕ
  at : ℕ
  sits : SitsAt b n p at

spot_on : (n : ℕ) (b : Lists) → SpotOn n b ⊎ (seated n b ≡ false)
spot_on n [] = inr refl
spot_on n (ss ∷ b) = go (position (λ (s : Seat). s.task.number == n) ss) (first_spot n ss _ refl) (spot_on n b)
  where
    go : (o : Option ℕ) → FirstSpot n ss o → SpotOn n b ⊎ (seated n b ≡ false) → SpotOn n (ss ∷ b) ⊎ ((holds n ss || seated n b) ≡ false)
    go (Some at) s r = inl (record { p = 0; at = at; sits = record { there = omega arith; within = s.within; number = s.number } })
    go None no_one (inl r) = inl (record { p = suc r.p; at = r.at; sits = record { there = omega (arith, r.sits.there); within = r.sits.within; number = r.sits.number } })
    go None no_one (inr none) = inr (ap (λ (v : Bool). v || seated n b) no_one ∙ none)

pub withdraws_some : WithdrawsSome
withdraws_some b n = ⊎_elim
    (λ (s : SpotOn n b).
    let seat = get_or (get_or b s.p []) s.at no_seat in
    (Ok (s.p, seat.task.work, seat.task.period), set b s.p (remove (get_or b s.p []) s.at), record { at = s.at; sits = s.sits; its_work = refl; its_period = refl; seats = refl }))
    (λ (none : seated n b ≡ false). (Err NotSeated, b, record { cause = none; refused = refl; seats_stay = refl }))
    (spot_on n b)
