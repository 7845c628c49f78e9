-- The calls of a list as the code has them, whose windows write into parts of one memory: what each of them is by the definitions of `lists`, and the memory
-- after it.
-- Assumes nothing.
use Rattle.std.specs.Prelude.{ℕ, Bool, ◌+◌, cond, leb, length, take, drop, get_or}
use mathlib.Core.List.{List, [], ◌∷◌}
use Rattle.replies.specs.Reply.{written}
use Rattle.lists.specs.Lists.{Call, seek, step, window, place_after, leaves}
use Rattle.call_lists.specs.declared.Part.{Part}
use Rattle.call_lists.specs.declared.Call.TheVariants as listed
use Rattle.call_lists.specs.declared.Call as listed_call

-- ---- one call

-- whether a part lies in a memory of so many bytes. The sum is taken without wrapping.
abbrev pub lies_in : ℕ → Part → Bool
lies_in bytes part = leb (part.start + part.len) bytes

-- the bytes of a part as the memory stands: none where it does not lie in it
abbrev pub part_of : Part → List ℕ → List ℕ
part_of part memory = cond (lies_in (length memory) part) (take part.len (drop part.start memory)) []

-- the call by the definitions, as the memory stands: a window's buffer is its part
abbrev pub call_of : List ℕ → listed_call.Call → Call
call_of memory (listed.Seek place) = seek place
call_of memory listed.Step = step
call_of memory (listed.Window count part at) = window count (part_of part memory) at

-- the memory after a call, given its buffers after it: those of a window, its one buffer, are put back where the part begins, and an empty one changes no byte
abbrev pub put_back : listed_call.Call → List (List ℕ) → List ℕ → List ℕ
put_back (listed.Seek place) buffers memory = memory
put_back listed.Step buffers memory = memory
put_back (listed.Window count part at) buffers memory = written part.start (get_or buffers 0 []) memory

-- ---- a list of calls, each of which finds the memory as the call before left it

-- the memory after one call, by the calls before it, THE LATEST FIRST
abbrev pub memory_past : ℕ → ℕ → List Call → List ℕ → listed_call.Call → List ℕ
memory_past signal prn done memory c = put_back c (leaves signal prn (place_after signal done) (call_of memory c)) memory

-- the calls by the definitions
unfoldable pub calls_of : ℕ → ℕ → List Call → List ℕ → List listed_call.Call → List Call
calls_of signal prn done memory [] = []
calls_of signal prn done memory (c ∷ cs) =
    call_of memory c ∷ calls_of signal prn (call_of memory c ∷ done) (memory_past signal prn done memory c) cs

-- the memory after all of them
unfoldable pub memory_after : ℕ → ℕ → List Call → List ℕ → List listed_call.Call → List ℕ
memory_after signal prn done memory [] = memory
memory_after signal prn done memory (c ∷ cs) = memory_after signal prn (call_of memory c ∷ done) (memory_past signal prn done memory c) cs
