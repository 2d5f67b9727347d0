-- The lines that are written back.
use Rattle.std.specs.Prelude.{ℕ, Bool, cond, ◌||◌, List, [], ◌++◌, length, Some, None, Ok, Err, codes, decimal, Option, ◌==◌, slice_index}
use Rattle.std.specs.Option.{option_map}
use Rattle.machine.specs.declared.state.Miss.{Miss}
use Rattle.machine.specs.Refusals.{refusal_text}
use Rattle.traces.specs.Texts.{number_text}
use Rattle.traces.specs.Traces.{trace_text}
use Rattle.script.specs.declared.answers.Answer.{Answer}
use Rattle.script.specs.declared.answers.Answer.TheVariants.{Instants, Demand, Share, Run}
use Rattle.script.specs.Calls.{Seen, judges, demands, shares, rehearses, traces, called}
use Rattle.script.specs.Answers.{answer_to}

-- `miss PLACE INSTANT BUSY` or `none BUSY`
abbrev pub end_text : Option Miss → ℕ → List ℕ
end_text None busy = codes "none " ++ decimal busy
end_text (Some m) busy = codes "miss " ++ (decimal m.place ++ (codes " " ++ (decimal m.instant.0 ++ (codes " " ++ decimal busy))))

abbrev pub answer_text : Answer → List ℕ
answer_text (Instants first second) = number_text (option_map (λ t. t.0) first) ++ (codes " " ++ number_text (option_map (λ t. t.0) second))
answer_text (Demand w) = number_text (option_map (λ u. u.0) w)
answer_text (Share s) = number_text s
answer_text (Run (Ok o)) = end_text o.miss o.busy.0
answer_text (Run (Err refusal)) = refusal_text refusal

-- an empty line, or one that begins with `#`, is no call
abbrev pub passed_over : List ℕ → Bool
passed_over line = length line == 0 || slice_index line 0 == 35

-- what stands before a call's answer: of a trace its lines, else nothing
abbrev pub lines_before : Seen → List ℕ
lines_before (judges task above) = []
lines_before (demands task at above) = []
lines_before (shares task) = []
lines_before (rehearses run) = []
lines_before (traces run) = trace_text run.tasks run.horizon.0 run.releases

abbrev pub call_text : Option Seen → List ℕ
call_text None = codes "?"
call_text (Some c) = lines_before c ++ answer_text (answer_to c)

-- a line with its answer behind it; one that is passed over stays as it is
abbrev pub line_with : List ℕ → List ℕ → List ℕ
line_with line answer = cond (passed_over line) line (line ++ (codes " -> " ++ answer))

-- what is written back for a line
abbrev pub reply_text : List ℕ → List ℕ
reply_text line = line_with line (call_text (called line))
