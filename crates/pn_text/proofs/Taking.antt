-- What the next token says of the tokens that are to come.
use Rattle.std.proofs.Common.{◌≡◌, Some, None, Ok, Err, List, [], ◌∷◌, refl, ap}
use Rattle.pn_text.specs.Scans.{Ending, AtEnd, AtFault, Scan, at_ending, first_in, next_of, rest_of, place_in, place_of}
use Rattle.pn_text.specs.declared.token.Token.{Token}
use Rattle.pn_text.specs.declared.token.LexFault.{LexFault}

ending_no_token : (ending : Ending) (token : Token) → at_ending ending ≡ Ok (Some token) → ⊥
ending_no_token (AtEnd place) token e = cc
ending_no_token (AtFault fault) token e = cc

taken_in : (tokens : List Token) (ending : Ending) (token : Token) → first_in tokens ending ≡ Ok (Some token) → tokens ≡ token ∷ (rest_of (record { tokens = tokens; ending = ending })).tokens
taken_in [] ending token e = absurd (ending_no_token ending token e)
taken_in (first ∷ tokens) ending token e = let same : first ≡ token = cc in ap (λ t. t ∷ tokens) same

-- a token is the first of them
pub taken : (scan : Scan) (token : Token) → next_of scan ≡ Ok (Some token) → scan.tokens ≡ token ∷ (rest_of scan).tokens
taken scan token e = taken_in scan.tokens scan.ending token e

-- how they end, where none is left
pub record Ends (scan : Scan) (ending : Ending) : Type 0 where
  pub none : scan.tokens ≡ []
  pub so : scan.ending ≡ ending

ended_by : (ending : Ending) → at_ending ending ≡ Ok None → ending ≡ AtEnd (place_in [] ending)
ended_by (AtEnd place) e = refl
ended_by (AtFault fault) e = cc

ended_in : (tokens : List Token) (ending : Ending) → first_in tokens ending ≡ Ok None → Ends (record { tokens = tokens; ending = ending }) (AtEnd (place_in tokens ending))
ended_in [] ending e = record { none = refl; so = ended_by ending e }
ended_in (token ∷ tokens) ending e = cc

-- without a token they are at the end of the text
pub ended : (scan : Scan) → next_of scan ≡ Ok None → Ends scan (AtEnd (place_of scan))
ended scan e = ended_in scan.tokens scan.ending e

failed_by : (ending : Ending) (fault : LexFault) → at_ending ending ≡ Err fault → ending ≡ AtFault fault
failed_by (AtEnd place) fault e = cc
failed_by (AtFault other) fault e = let same : other ≡ fault = cc in ap AtFault same

failed_in : (tokens : List Token) (ending : Ending) (fault : LexFault) → first_in tokens ending ≡ Err fault → Ends (record { tokens = tokens; ending = ending }) (AtFault fault)
failed_in [] ending fault e = record { none = refl; so = failed_by ending fault e }
failed_in (token ∷ tokens) ending fault e = cc

-- with a fault they end with it
pub failed : (scan : Scan) (fault : LexFault) → next_of scan ≡ Err fault → Ends scan (AtFault fault)
failed scan fault e = failed_in scan.tokens scan.ending fault e
