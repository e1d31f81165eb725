-- For proofs alone: the rule of a view's channel. What was sent is what was taken and then what the channel holds. One pass at most
-- may send, and it has the list of what was sent. The same for what was taken.
use Rattle.std.specs.Prelude.{◌≡◌, ℕ, Bool, true, List, [], ◌∷◌, ◌++◌}
use mathlib.Core.Option.{some}
use lib.ListN.{get_elem?}
use Rattle.session_spec.specs.declared.data.LatestSample.{LatestSample}
use Rattle.visi_run.specs.declared.line.Log.{Log}

abbrev pub log : Bool → Bool → List LatestSample → List LatestSample → Log
log a b sent taken = record { sends = a; takes = b; sent = sent; taken = taken }

abbrev pub has_sent : Log → LatestSample → Log
has_sent v x = log v.sends v.takes (v.sent ++ x ∷ []) v.taken

abbrev pub has_taken : Log → LatestSample → Log
has_taken v x = log v.sends v.takes v.sent (v.taken ++ x ∷ [])

-- what the rule says of one pass
abbrev pub Fits : ℕ → ℕ → List LatestSample → List LatestSample → ℕ → Log → Type 0
Fits sender taker sent taken pass v =
    (v.sends ≡ true → (pass ≡ sender) × (v.sent ≡ sent)) × (v.takes ≡ true → (pass ≡ taker) × (v.taken ≡ taken))

-- the rule: what the channel holds, and all passes
abbrev pub Flows : List LatestSample → List Log → Type 0
Flows items views = (sender : ℕ) × (taker : ℕ) × (sent : List LatestSample) × (taken : List LatestSample) × (sent ≡ taken ++ items)
    × ((pass : ℕ) (v : Log) → get_elem? views pass ≡ some v → Fits sender taker sent taken pass v)
