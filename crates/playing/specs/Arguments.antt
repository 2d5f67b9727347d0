-- What the player's first argument asks for, and what is then written.
use Rattle.std.specs.Prelude.{◌≡◌, ◌≢◌, ℕ, List, codes, Ok, Err, Result}
use Rattle.std.specs.Io.KnownBytes.{Keeps}
use Rattle.playing.specs.declared.arguments.Asked.{Asked}
use Rattle.playing.specs.declared.arguments.Asked.TheVariants.{Help, Version, Play}
use Rattle.playing.specs.declared.halt.Halt.{Halt}
use Rattle.playing.specs.Streams.{Known}
use Rattle.playing.specs.declared.halt.Halt.TheVariants.{Reading, Memory, Writing}
use Rattle.playing.specs.Running.{WritesAll, WritesFront, Runs}

-- two arguments ask for a text, and any other leaves the player to play
abbrev pub AsksFor : List ℕ → Asked → Type 0
AsksFor argument Help = argument ≡ codes "--help"
AsksFor argument Version = argument ≡ codes "--version"
AsksFor argument Play = (argument ≢ codes "--help") × (argument ≢ codes "--version")

abbrev pub usage : List ℕ
usage = codes "usage: player < FILE\n\nReads a rack file from standard input, and writes a line for each of its\nrecords to standard output, or one line for a file that it cannot read.\nIt asks for nothing: on a terminal it waits in silence for the file.\n\n  --help     writes this text\n  --version  writes the version\n\nOnly the first argument is looked at, and any other does nothing.\nThe exit status is 0, also for a file that it cannot read, and 1 where\nreading, writing or memory fails.\n"

abbrev pub version : List ℕ
version = codes "player 1.0, for rack files of version 1\n"

-- this text, and nothing else, is written, and nothing is read; only the writing can fail
abbrev pub Tells : (text : List ℕ) (had had' held held' : Known) → Result (Unit {0}) Halt → Type 0
Tells text had had' held held' (Ok done) = Keeps had had' × WritesAll (λ t. t ≡ text) held held'
Tells text had had' held held' (Err (Writing e)) = Keeps had had' × WritesFront (λ t. t ≡ text) held held'
Tells text had had' held held' (Err (Reading e)) = ⊥
Tells text had had' held held' (Err (Memory e)) = ⊥

-- A RUN of the program by what it is asked for.
abbrev pub RunsAsked : Asked → (had had' held held' : Known) → Result (Unit {0}) Halt → Type 0
RunsAsked Help had had' held held' result = Tells usage had had' held held' result
RunsAsked Version had had' held held' result = Tells version had had' held held' result
RunsAsked Play had had' held held' result = Runs had had' held held' result
