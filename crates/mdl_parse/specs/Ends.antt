-- For proofs alone: where reading stops: at a word, at something that is no word, or at the end.
use Rattle.std.specs.Prelude.{Option, Some, None, List, [], ◌∷◌}
use Rattle.pn_text.specs.Scans.{Ending, AtEnd, AtFault, fault_place}
use Rattle.pn_text.specs.declared.token.LexFault.{LexFault}
use Rattle.mdl_parse.specs.declared.refusal.Refusal.{Refusal}
use Rattle.mdl_parse.specs.declared.fault.ParseFault.{ParseFault}
use Rattle.mdl_parse.specs.WordsInText.{PlacedWord}
use Rattle.mdl_parse.specs.Meaning.{refusal_kind, lex_kind}

abbrev pub lex_fault : LexFault → ParseFault
lex_fault fault = record { line = (fault_place fault).line; col = (fault_place fault).col; kind = lex_kind fault }

abbrev pub end_fault : Ending → Refusal → ParseFault
end_fault (AtEnd last) why = record { line = last.line; col = last.col; kind = refusal_kind why }
end_fault (AtFault fault) why = lex_fault fault

-- the fault of words that can't go on as they do
abbrev pub fault_in : List PlacedWord → Ending → Refusal → ParseFault
fault_in [] ending why = end_fault ending why
fault_in (placed ∷ words_ahead) ending why = record { line = placed.line; col = placed.col; kind = refusal_kind why }

-- the fault that stands after all words, if there is one
abbrev pub unread_in : List PlacedWord → Ending → Option ParseFault
unread_in [] (AtEnd last) = None
unread_in [] (AtFault fault) = Some (lex_fault fault)
unread_in (placed ∷ words_ahead) ending = None
