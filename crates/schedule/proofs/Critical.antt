-- The core: one place of a machine as sequences over the instants, with no formula of demand, no list of tasks and no law of releases in it.
-- w n is what the places above hold just before instant n, arr n the work that they are released at n, cell n the place's own state just before n and fresh n its state
-- after the releases of n, d n whether it is released at n. S units are done in a tick; a job of the place has some work up to C, and its deadline D ticks after its release.
-- A tick is two equations: what the places above hold falls by S, and the place spends what they leave.
use Rattle.std.proofs.Common.{◌≡◌, ℕ, zero, suc, ◌+◌, ◌-◌, ◌*◌, ◌<◌, ◌≤◌, Bool, true, false, cond, leb, ◌⊎◌, sym, refl, ap, ◌∙◌, subst, inl, inr, mul-zero, zero-add, mul-suc, arith}
use Rattle.std.proofs.lemmas.Bool.{cond_both, cond-false, leb-true, leb-false, cases_lt, cases_Bool, cases_eq}
use Rattle.tasks.specs.declared.units.Units.{Units}
use Rattle.tasks.specs.declared.units.Ticks.{Ticks}
use Rattle.machine.specs.declared.state.State.{State}
use Rattle.machine.specs.declared.state.State.TheVariants.{Idle, Waiting}
use Rattle.schedule.proofs.Windows.{win, Apart}

-- a state that may spend b units
abbrev pub spend : ℕ → State → State
spend b Idle = Idle
spend b (Waiting left deadline) = cond (leb left.0 b) Idle (Waiting (record { 0 = left.0 - b }) deadline)

-- what the releases of instant n make of a state: it stays, or it is a new job
abbrev pub Renewed : (ℕ → Bool) → ℕ → ℕ → ℕ → State → State → Type 0
Renewed d C D n old new = ((d n ≡ false) × (new ≡ old)) ⊎ ((c : Units) × (d n ≡ true) × (1 ≤ c.0) × (c.0 ≤ C) × (new ≡ Waiting c (record { 0 = n + D })))

-- a tick: `held` is what the places above hold after the releases, at most what they held and what came
pub record Tick (S w' w arrived : ℕ) (fresh cell' : State) : Type 0 where
  pub held : ℕ
  pub bound : held ≤ w + arrived
  pub above : w' ≡ held - S
  pub own : cell' ≡ spend (S - held) fresh

-- the places above have spent every unit since `from`, when they held nothing
pub record Since (arr : ℕ → ℕ) (S n w : ℕ) : Type 0 where
  pub from : ℕ
  pub for : ℕ
  pub now : n ≡ from + for
  pub left : w + S * for ≤ win arr from for
  pub all : (y : ℕ) → y ≤ for → S * y ≤ win arr from y

-- a job released at `released`, before `end`, and not done: since `from` every unit went to it or to the places above
pub record Open (arr : ℕ → ℕ) (d : ℕ → Bool) (S C D end n w left deadline : ℕ) : Type 0 where
  pub from : ℕ
  pub for : ℕ
  pub released : ℕ
  pub was : d released ≡ true
  pub past : released < end
  pub now : n ≡ from + for
  pub before : from ≤ released
  pub due_at : deadline ≡ released + D
  pub some_left : 1 ≤ left
  pub work : w + left + S * for ≤ win arr from for + C
  pub all : (y : ℕ) → y ≤ for → S * y < win arr from y + C

abbrev pub Fact : (ℕ → ℕ) → (ℕ → Bool) → ℕ → ℕ → ℕ → ℕ → ℕ → ℕ → State → Type 0
Fact arr d S C D end n w Idle = Unit
Fact arr d S C D end n w (Waiting left deadline) = Open arr d S C D end n w left.0 deadline.0

since_start : (arr : ℕ → ℕ) (S n : ℕ) → Since arr S n 0
since_start arr S n = record { from = n; for = 0; now = omega arith; left = omega (arith, mul-zero S); all = λ y h. let e : y ≡ 0 = omega arith in rw e (omega (arith, mul-zero S)) }

since_tick : (arr : ℕ → ℕ) (S n w w' held : ℕ) → held ≤ w + arr n → w' ≡ held - S → Since arr S n w → Since arr S (suc n) w'
since_tick arr S n w w' held b q s = go (cases_lt held S)
  where
    e : arr n ≡ arr (s.from + s.for)
    e = ap arr s.now

    one : (y : ℕ) → y ≤ suc s.for → (y < suc s.for) ⊎ (suc s.for ≤ y) → w' + S * suc s.for ≤ win arr s.from (suc s.for) → S * y ≤ win arr s.from y
    one y h (inl l) m = s.all y (omega arith)
    one y h (inr l) m = let z : suc s.for ≡ y = omega arith in subst (λ v. S * v ≤ win arr s.from v) z (omega arith)

    go : (held < S) ⊎ (S ≤ held) → Since arr S (suc n) w'
    go (inl h) = let z : w' ≡ 0 = omega arith in rw z (since_start arr S (suc n))
    go (inr h) =
        let m : w' + S * suc s.for ≤ win arr s.from (suc s.for) = omega (arith, s.left, mul-suc S s.for, e) in
        record { from = s.from; for = suc s.for; now = omega (arith, s.now); left = m; all = λ y i. one y i (cases_lt y (suc s.for)) m }

open_tick : (arr : ℕ → ℕ) (d : ℕ → Bool) (S C D end n w w' left left' deadline : ℕ) → 1 ≤ left' → w' + left' + S ≤ w + arr n + left
    → Open arr d S C D end n w left deadline → Open arr d S C D end (suc n) w' left' deadline
open_tick arr d S C D end n w w' left left' deadline p b s =
    let e : arr n ≡ arr (s.from + s.for) = ap arr s.now in
    let m : w' + left' + S * suc s.for ≤ win arr s.from (suc s.for) + C = omega (arith, s.work, mul-suc S s.for) in
    record {
      from = s.from;
      for = suc s.for;
      released = s.released;
      was = s.was;
      past = s.past;
      now = omega (arith, s.now);
      before = s.before;
      due_at = s.due_at;
      some_left = p;
      work = m;
      all = λ y h. one y h (cases_lt y (suc s.for)) (omega arith);
    }
  where
    one : (y : ℕ) → y ≤ suc s.for → (y < suc s.for) ⊎ (suc s.for ≤ y) → S * suc s.for < win arr s.from (suc s.for) + C → S * y < win arr s.from y + C
    one y h (inl l) m = s.all y (omega arith)
    one y h (inr l) m = let q : suc s.for ≡ y = omega arith in subst (λ z. S * z < win arr s.from z + C) q m

fact_tick : (arr : ℕ → ℕ) (d : ℕ → Bool) (S C D end n w w' held : ℕ) (s : State) → held ≤ w + arr n → w' ≡ held - S → Fact arr d S C D end n w s → Fact arr d S C D end (suc n) w' (spend (S - held) s)
fact_tick arr d S C D end n w w' held Idle b q f = tt
fact_tick arr d S C D end n w w' held (Waiting left deadline) b q f =
    cond_both (leb left.0 (S - held)) Idle (Waiting (record { 0 = left.0 - (S - held) }) deadline) (λ s. Fact arr d S C D end (suc n) w' s)
    (λ e. tt) (λ e. let h = leb-false left.0 (S - held) e in open_tick arr d S C D end n w w' left.0 (left.0 - (S - held)) deadline.0 (omega arith) (omega arith) f)

fact_later : (arr : ℕ → ℕ) (d : ℕ → Bool) (S C D end n w : ℕ) (s : State) → Fact arr d S C D end n w s → Fact arr d S C D (suc end) n w s
fact_later arr d S C D end n w Idle f = tt
fact_later arr d S C D end n w (Waiting left deadline) f = record {
  from = f.from;
  for = f.for;
  released = f.released;
  was = f.was;
  past = omega (arith, f.past);
  now = f.now;
  before = f.before;
  due_at = f.due_at;
  some_left = f.some_left;
  work = f.work;
  all = f.all;
}

fact_renewed : (arr : ℕ → ℕ) (d : ℕ → Bool) (S C D n w : ℕ) (old new : State) → Renewed d C D n old new → Since arr S n w → Fact arr d S C D n n w old → Fact arr d S C D (suc n) n w new
fact_renewed arr d S C D n w old new (inl e) s f = subst (λ x. Fact arr d S C D (suc n) n w x) (sym e.1) (fact_later arr d S C D n n w old f)
fact_renewed arr d S C D n w old new (inr (c, o, a, b, e)) s f = subst (λ x. Fact arr d S C D (suc n) n w x) (sym e)
    (record {
      from = s.from;
      for = s.for;
      released = n;
      was = o;
      past = omega arith;
      now = s.now;
      before = omega (arith, s.now);
      due_at = refl;
      some_left = a;
      work = omega (arith, s.left);
      all = λ y h. omega (arith, s.all y h);
    })

-- The window lemma: where the g ticks from `from` on leave C units to the place, the job does not wait for g ticks after its release.
pub window : (arr : ℕ → ℕ) (d : ℕ → Bool) (S C D end n w left deadline g : ℕ) → (o : Open arr d S C D end n w left deadline) → win arr o.from g + C ≤ S * g → n + D < deadline + g
window arr d S C D end n w left deadline g o enough = elim (cases_lt o.for g) [
  | inl h ↦ omega (arith, o.now, o.before, o.due_at)
  | inr h ↦ absurd (omega (arith, o.all g h))
]

module _ (arr : ℕ → ℕ) (d : ℕ → Bool) (S C D : ℕ) (w : ℕ → ℕ) (cell fresh : ℕ → State) (w-start : w 0 ≡ 0) (cell-start : cell 0 ≡ Idle)
    (renewed : (n : ℕ) → Renewed d C D n (cell n) (fresh n)) (tick : (n : ℕ) → Tick S (w (suc n)) (w n) (arr n) (fresh n) (cell (suc n))) where
  since : (n : ℕ) → Since arr S n (w n)
  since zero = rw w-start (since_start arr S 0)
  since (suc n) = since_tick arr S n (w n) (w (suc n)) (tick n).held (tick n).bound (tick n).above (since n)

  fact : (n : ℕ) → Fact arr d S C D n n (w n) (cell n)
  fact zero = subst (λ s. Fact arr d S C D 0 0 (w 0) s) (sym cell-start) tt
  fact (suc n) = subst (λ s. Fact arr d S C D (suc n) (suc n) (w (suc n)) s) (sym (tick n).own)
      (fact_tick arr d S C D (suc n) n (w n) (w (suc n)) (tick n).held (fresh n) (tick n).bound (tick n).above (fact_renewed arr d S C D n (w n) (cell n) (fresh n) (renewed n) (since n) (fact n)))

  -- a job that waits was released before
  pub opened : (n : ℕ) (left : Units) (deadline : Ticks) → cell n ≡ Waiting left deadline → Open arr d S C D n n (w n) left.0 deadline.0
  opened n left deadline e = subst (λ s. Fact arr d S C D n n (w n) s) e (fact n)

  module _ (g : ℕ) (enough : (a : ℕ) → win arr a g + C ≤ S * g) where
    -- so where each g ticks do, no job waits for g ticks,
    pub waits_less : (n : ℕ) (left : Units) (deadline : Ticks) → cell n ≡ Waiting left deadline → n + D < deadline.0 + g
    waits_less n left deadline e = let o = opened n left deadline e in window arr d S C D n n (w n) left.0 deadline.0 g o (enough o.from)

    -- and from g ticks after a release on the place is idle until the next one
    pub idle_from : (r n : ℕ) → r + g ≤ n → ((q : ℕ) → r < q → q < n → d q ≡ true → ⊥) → cell n ≡ Idle
    idle_from r n l none = go (cell n) refl
      where
        go : (s : State) → cell n ≡ s → s ≡ Idle
        go Idle e = refl
        go (Waiting left deadline) e =
            let o = opened n left deadline e in
            let k = waits_less n left deadline e in
            absurd (none o.released (omega (arith, o.due_at)) o.past o.was)

-- While no job waits at its deadline, a job that waits has its deadline still to come.
abbrev pub InTime : (ℕ → Bool) → ℕ → ℕ → State → Type 0
InTime d D n Idle = Unit
InTime d D n (Waiting left deadline) = (r : ℕ) × (d r ≡ true) × (deadline.0 ≡ r + D) × (r < n) × (n ≤ deadline.0)

in_time_spend : (d : ℕ → Bool) (D n b : ℕ) (s : State) → InTime d D n s → InTime d D n (spend b s)
in_time_spend d D n b Idle h = tt
in_time_spend d D n b (Waiting l dl) h = cond_both (leb l.0 b) Idle (Waiting (record { 0 = l.0 - b }) dl) (λ s. InTime d D n s) (λ e. tt) (λ e. h)

in_time_next : (d : ℕ → Bool) (D n : ℕ) (s : State) → InTime d D n s → ((l : Units) → s ≡ Waiting l (record { 0 = n }) → ⊥) → InTime d D (suc n) s
in_time_next d D n Idle h nl = tt
in_time_next d D n (Waiting l dl) h nl = elim (cases_eq dl.0 n) [
  | inl e ↦ absurd (nl l (ap (λ (x : ℕ). Waiting l (record { 0 = x })) e))
  | inr e ↦ (h.0, h.1, h.2, omega arith, omega arith)
]

module _ (d : ℕ → Bool) (C D : ℕ) (cell fresh : ℕ → State) (some : 1 ≤ D) (cell-start : cell 0 ≡ Idle) (renewed : (n : ℕ) → Renewed d C D n (cell n) (fresh n))
    (spent : (n : ℕ) → (b : ℕ) × (cell (suc n) ≡ spend b (fresh n))) (limit : ℕ) (fine : (n : ℕ) (l : Units) → n ≤ limit → cell n ≡ Waiting l (record { 0 = n }) → ⊥) where
  in_time : (n : ℕ) → n ≤ limit → InTime d D n (cell n)
  in_time zero h = subst (λ x. InTime d D 0 x) (sym cell-start) tt
  in_time (suc n) h = subst (λ x. InTime d D (suc n) x) (sym (spent n).1) (in_time_spend d D (suc n) (spent n).0 (fresh n) (ready (renewed n) (in_time n (omega arith))))
    where
      ready : Renewed d C D n (cell n) (fresh n) → InTime d D n (cell n) → InTime d D (suc n) (fresh n)
      ready (inl e) ih = subst (λ x. InTime d D (suc n) x) (sym e.1) (in_time_next d D n (cell n) ih (λ l q. fine n l (omega arith) q))
      ready (inr (c, o, a, b, e)) ih = subst (λ x. InTime d D (suc n) x) (sym e) (n, o, refl, omega arith, omega arith)

  -- so a release finds its task idle, where releases are D apart
  pub free : Apart d D → (n : ℕ) → n ≤ limit → d n ≡ true → cell n ≡ Idle
  free far n h e = go (cell n) refl (in_time n h)
    where
      go : (x : State) → cell n ≡ x → InTime d D n x → x ≡ Idle
      go Idle q k = refl
      go (Waiting left dl) q k =
          let f = far k.0 n k.1 e k.3 in
          let z : dl.0 ≡ n = omega (arith, k.2, k.4) in
          absurd (fine n left h (q ∙ ap (λ (y : ℕ). Waiting left (record { 0 = y })) z))

-- The critical instant: nothing is held before it, no work is lost below G, and the place's first job, of work C, is released at it. If no n up to G has room for C and the work that came, the job still waits at G.
module _ (arr : ℕ → ℕ) (S : ℕ) (C : Units) (D G : ℕ) (w : ℕ → ℕ) (cell fresh : ℕ → State) (some : 1 ≤ C.0)
    (first : fresh 0 ≡ Waiting C (record { 0 = D })) (w-start : w 0 ≡ 0) (same : (n : ℕ) → 0 < n → n < G → fresh n ≡ cell n)
    (above : (n : ℕ) → n < G → w (suc n) ≡ (w n + arr n) - S) (own : (n : ℕ) → n < G → cell (suc n) ≡ spend (S - (w n + arr n)) (fresh n))
    (bad : (n : ℕ) → 1 ≤ n → n ≤ G → C.0 + win arr 0 n ≤ S * n → ⊥) where
  record First (n : ℕ) (s : State) : Type 0 where
    left : Units
    is : s ≡ Waiting left (record { 0 = D })
    some_left : 1 ≤ left.0
    work : C.0 + win arr 0 n ≤ w n + left.0 + S * n

  first_tick : (n : ℕ) → n < G → First n (fresh n) → First (suc n) (cell (suc n))
  first_tick n h f =
      let e : arr (0 + n) ≡ arr n = ap arr (zero-add n) in
      let m = mul-suc S n in
      elim (cases_Bool (leb f.left.0 (S - (w n + arr n)))) [
        | inl q ↦ absurd (bad (suc n) (omega arith) h (omega (arith, f.work, f.some_left, leb-true f.left.0 (S - (w n + arr n)) q)))
        | inr q ↦ record {
          left = record { 0 = f.left.0 - (S - (w n + arr n)) };
          is = own n h ∙ ap (spend (S - (w n + arr n))) f.is ∙ cond-false (leb f.left.0 (S - (w n + arr n))) Idle (Waiting (record { 0 = f.left.0 - (S - (w n + arr n)) }) (record { 0 = D })) q;
          some_left = omega (arith, leb-false f.left.0 (S - (w n + arr n)) q);
          work = omega (arith, f.work, above n h, leb-false f.left.0 (S - (w n + arr n)) q);
        }
      ]

  waits : (n : ℕ) → n < G → First (suc n) (cell (suc n))
  waits zero h = first_tick 0 h (record { left = C; is = first; some_left = some; work = omega (arith, mul-zero S) })
  waits (suc n) h =
      let f = waits n (omega arith) in
      first_tick (suc n) h (record { left = f.left; is = same (suc n) (omega arith) h ∙ f.is; some_left = f.some_left; work = f.work })

  pub waits_on : 1 ≤ G → (left : Units) × (cell G ≡ Waiting left (record { 0 = D }))
  waits_on p = let f = waits (G - 1) (omega arith) in let q : suc (G - 1) ≡ G = omega arith in (f.left, subst (λ z. cell z ≡ Waiting f.left (record { 0 = D })) q f.is)
