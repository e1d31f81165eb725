-- The frames of a hart's stack as they stand in memory, and the calls that they tell of. Addresses are modulo 2^64.
use Rattle.std.specs.Prelude.{ℕ, Bool, zero, suc, ◌+◌, ◌-◌, ◌%◌, ◌^◌, ◌==◌, nat_lt, if◌then◌else◌, Option, Some, None, Result, Ok, Err, List, [], ◌∷◌}
use Rattle.rv_word.specs.declared.outcome.MemStop.{MemStop}
use Rattle.rv_word.specs.Memory.{Memory, load, in_range}
use Rattle.frame_walk.specs.declared.frame.Frame.{Frame}

-- the address n bytes below a
abbrev pub below : ℕ → ℕ → ℕ
below a n = (a + (2 ^ 64 - n)) % 2 ^ 64

-- the address of the call that has this return address
abbrev pub call_before : ℕ → ℕ
call_before return_address = below return_address 4

abbrev pub is_text : Memory → ℕ → Bool
is_text m a = in_range m.text_at m.text_len a

-- ---- one frame

abbrev pub if_loaded : Result ℕ MemStop → Option ℕ
if_loaded (Ok number) = Some number
if_loaded (Err stop) = None

-- the doubleword at an address, where its bytes are mapped and outside the text
abbrev pub doubleword : Memory → ℕ → Option ℕ
doubleword m a = if_loaded (load 8 m a)

abbrev pub frame_of : Option ℕ → Option ℕ → Option Frame
frame_of (Some return_address) (Some next) = Some (record { return_address = return_address; next = next })
frame_of (Some return_address) None = None
frame_of None next = None

-- The frame at a frame pointer fp: the doubleword below fp is its return address, and the one below that the next frame pointer. It
-- stands where these 16 bytes are mapped and outside the text.
abbrev pub frame_at : Memory → ℕ → Option Frame
frame_at m fp = frame_of (doubleword m (below fp 8)) (doubleword m (below fp 16))

-- ---- the calls

-- A frame that stands tells of the call before its return address, where that is in the text. The next frame follows only where it
-- lies above this one.
abbrev pub calls_of : Option Frame → Memory → ℕ → (ℕ → List ℕ) → List ℕ
calls_of None m fp others = []
calls_of (Some f) m fp others =
    if is_text m (call_before f.return_address) then call_before f.return_address ∷ (if nat_lt fp f.next then others f.next else []) else []

-- the calls of which at most n frames tell, the first at fp
unfoldable pub calls : ℕ → Memory → ℕ → List ℕ
calls zero m fp = []
calls (suc n) m fp = calls_of (frame_at m fp) m fp (calls n m)

-- the call of which x1 has the return address, unless the first frame has that address
abbrev pub caller_of : Option Frame → ℕ → Option ℕ
caller_of None ra = Some (call_before ra)
caller_of (Some f) ra = if f.return_address == ra then None else Some (call_before ra)
