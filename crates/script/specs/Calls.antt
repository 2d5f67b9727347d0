-- The calls of a script, and how they stand in a line.
use Rattle.std.specs.Prelude.{nat_eq, Bool, if◌then◌else◌, ℕ, suc, not, List, [], ◌∷◌, length, take, drop, Some, None, vec_items, Option, ◌==◌, nat_lt}
use Rattle.std.specs.Cmp.Lexicographic.{pointwise}
use Rattle.std.specs.Option.{option_map}
use Rattle.std.specs.List.{prefix_len}
use Rattle.tasks.specs.declared.task.Task.{Task}
use Rattle.tasks.specs.declared.units.Ticks.{Ticks}
use Rattle.tasks.specs.Tasks.{task_of}
use Rattle.machine.specs.declared.state.Release.{Release}
use Rattle.script.specs.declared.words.Word.{Word}
use Rattle.script.specs.declared.words.Word.TheVariants.{Judge, Demand, Share, Rehearse, Trace}
use Rattle.script.specs.declared.calls.Call.{Call}
use Rattle.script.specs.declared.calls.Call.TheVariants as call
use Rattle.script.specs.declared.calls.Rehearsal.{Rehearsal}
use Rattle.script.specs.Names.{name_of}
use Rattle.script.specs.Fields.{numbers_of}
use Rattle.script.specs.Pairs.{counted, counted_alone}

-- what a rehearsal is asked about, with the lists that its Vecs hold
pub record SeenRun : Type 0 where
  pub horizon : Ticks
  pub tasks : List Task
  pub releases : List Release

abbrev pub seen_run : Rehearsal → SeenRun
seen_run r = record { horizon = r.horizon; tasks = vec_items r.tasks; releases = vec_items r.releases }

-- a call, with the lists that its Vecs hold
pub data Seen : Type 0 where
  judges : Task → List Task → Seen
  demands : Task → Ticks → List Task → Seen
  shares : Task → Seen
  rehearses : SeenRun → Seen
  traces : SeenRun → Seen

abbrev pub seen_as : Call → Seen
seen_as (call.Judge task above) = judges task (vec_items above)
seen_as (call.Demand task at above) = demands task at (vec_items above)
seen_as (call.Share task) = shares task
seen_as (call.Rehearse run) = rehearses (seen_run run)
seen_as (call.Trace run) = traces (seen_run run)

-- a task of the given work and period; scripts give it no number
abbrev pub plain_task : ℕ → ℕ → Task
plain_task = task_of 0

-- a release of a place at an instant
abbrev pub release_of : ℕ → ℕ → Release
release_of place instant = record { place = place; instant = record { 0 = instant } }

abbrev pub run_behind : ℕ → Option (List Task × List ℕ) → Option SeenRun
run_behind horizon None = None
run_behind horizon (Some (tasks, behind)) = option_map (λ releases. record { horizon = record { 0 = horizon }; tasks = tasks; releases = releases }) (counted_alone release_of behind)

-- behind a horizon, `N C1 T1 .. CN TN K P1 I1 .. PK IK`: N tasks and K releases
abbrev pub run_of : ℕ → List ℕ → Option SeenRun
run_of horizon rest = run_behind horizon (counted plain_task rest)

-- `judge C T N C1 T1 .. CN TN`, `demand C T t N C1 T1 .. CN TN`, `share C T`, `rehearse H ..` and `trace H ..`, by their numbers in turn
abbrev pub call_of : Word → List ℕ → Option Seen
call_of Judge (work ∷ (period ∷ rest)) = option_map (judges (plain_task work period)) (counted_alone plain_task rest)
call_of Demand (work ∷ (period ∷ (at ∷ rest))) = option_map (demands (plain_task work period) (record { 0 = at })) (counted_alone plain_task rest)
call_of Share (work ∷ (period ∷ [])) = Some (shares (plain_task work period))
call_of Rehearse (horizon ∷ rest) = option_map rehearses (run_of horizon rest)
call_of Trace (horizon ∷ rest) = option_map traces (run_of horizon rest)
call_of word numbers = None

-- how many bytes stand before the first space
abbrev pub word_length : List ℕ → ℕ
word_length line = prefix_len (λ b. not (b == 32)) line

-- the text is the name of the word
abbrev pub names : List ℕ → Word → Bool
names text word = pointwise nat_eq text (name_of word)

-- the word of that name, or none
abbrev pub word_of : List ℕ → Option Word
word_of text =
    if names text Judge then Some Judge
    else (if names text Demand then Some Demand
    else (if names text Share then Some Share
    else (if names text Rehearse then Some Rehearse
    else (if names text Trace then Some Trace else None))))

abbrev pub with_numbers : Word → Option (List ℕ) → Option Seen
with_numbers word None = None
with_numbers word (Some ns) = call_of word ns

abbrev pub with_word : Option Word → List ℕ → Option Seen
with_word None text = None
with_word (Some word) text = with_numbers word (numbers_of text)

-- the call that a line stands for: a word, a space, and its numbers parted by single spaces
abbrev pub called : List ℕ → Option Seen
called line =
    if nat_lt (word_length line) (length line) then with_word (word_of (take (word_length line) line)) (drop (suc (word_length line)) line)
    else None
