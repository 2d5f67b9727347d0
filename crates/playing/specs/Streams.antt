-- What comes in from a reader and goes out to a writer, whose bytes are known or not.
use Rattle.std.specs.Prelude.{◌≡◌, ℕ, ◌<◌, ◌≤◌, Option, List, [], length, take, Ok, Err, Result, Vec, OnOk, None, Some, codes}
use Rattle.std.specs.Io.KnownBytes.{Keeps, Appends, Consumes, IsAtEnd}
use Rattle.std.specs.Io.Buffered.{writer_contents, writer_buffer}
use Rattle.std.specs.declared.io.Error.{Error}
use Rattle.std.specs.declared.io.BufWriter.{BufWriter}
use Rattle.rackfile.specs.Exact.{AreBytes}
use Rattle.playing.specs.declared.halt.Halt.{Halt}
use Rattle.playing.specs.declared.halt.Halt.TheVariants.{Reading, Memory, Writing}

-- the bytes that a reader has left, or a writer holds, where they are known
abbrev pub Known : Type 0
Known = Option (List ℕ)

-- a front part of what the reader had is gone, of at most so many bytes
pub record TakenAtMost (most : ℕ) (known known' : Known) : Type 0 where
  pub taken : List ℕ
  pub few : length taken ≤ most
  pub consumed : Consumes known known' taken

-- the first n bytes of the buffer are what came, and a buffer that is not full had all of it
pub record CameFirst (known known' : Known) (buffer : List ℕ) (n : ℕ) : Type 0 where
  pub within : n ≤ length buffer
  pub consumed : Consumes known known' (take n buffer)
  pub all : n < length buffer → IsAtEnd known'
  pub bytes : AreBytes (take n buffer)

-- a buffer is filled from the front, or the reading fails on the way
abbrev pub Fills : Known → Known → List ℕ → Result ℕ Error → Type 0
Fills known known' buffer (Ok n) = CameFirst known known' buffer n
Fills known known' buffer (Err e) = TakenAtMost (length buffer) known known'

-- what was read: all that the reader had, or the first so many bytes of it; the reader keeps the rest
pub record Taken (most : ℕ) (known known' : Known) (input : List ℕ) : Type 0 where
  pub consumed : Consumes known known' input
  pub within : length input ≤ most
  pub all : length input < most → IsAtEnd known'
  pub bytes : AreBytes input

-- so much is read, or the reading fails on the way
abbrev pub TakesUp : {A : Type 0} → ℕ → Known → Known → Result (Vec ℕ A) Error → Type 0
TakesUp most known known' (Ok input) = Taken most known known' input.items
TakesUp most known known' (Err e) = TakenAtMost most known known'

-- the input is read, up to 65,537 bytes, which are enough to tell that it is too long; where there is no memory for it, nothing was read
abbrev pub ReadsInput : {A : Type 0} → Known → Known → Result (Vec ℕ A) Halt → Type 0
ReadsInput known known' (Ok input) = Taken 65537 known known' input.items
ReadsInput known known' (Err (Reading e)) = TakenAtMost 65537 known known'
ReadsInput known known' (Err (Memory e)) = Keeps known known'
ReadsInput known known' (Err (Writing e)) = ⊥

-- the first bytes, so many of them, were written
pub record PutInPart (known known' : Known) (bytes : List ℕ) : Type 0 where
  pub count : ℕ
  pub appended : Appends known known' (take count bytes)

-- all the bytes are written, or a front part of them where the writing fails
abbrev pub Puts : Known → Known → List ℕ → Result Unit Error → Type 0
Puts known known' bytes (Ok x) = Appends known known' bytes
Puts known known' bytes (Err e) = PutInPart known known' bytes

-- the buffer is written out: what was written stays, and nothing waits in the buffer any more, unless the writing fails
pub record Finishes {W A : Type 0} (contents : W → Known) (out out' : BufWriter W A) (result : Result Unit Error) : Type 0 where
  pub kept : Keeps (writer_contents contents out) (writer_contents contents out')
  pub emptied : OnOk result (writer_buffer out' ≡ [])

-- how a run that ended early is shown; of the library's errors no contract says how they show
abbrev pub halt_text : Halt → Option (List ℕ)
halt_text (Reading e) = None
halt_text (Memory e) = Some (codes "no memory for the input")
halt_text (Writing e) = None
