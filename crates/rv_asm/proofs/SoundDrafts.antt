-- What the lines so far leave: labels in the text stand at words, what stands in the text doesn't name x31, and modules are
-- good names.
use Rattle.std.proofs.Common.{◌≡◌, ℕ, ◌+◌, ◌%◌, ◌≤◌, ◌⊎◌, inl, inr, cond, Bool, true, false, Option, Some, None, Ok, List, [], ◌∷◌, ◌++◌, refl, ap, sym, subst, arith, is_some}
use Rattle.std.specs.List.{AllByRecursion}
use Rattle.std.specs.Prelude.{nat_lt}
use Rattle.std.proofs.lemmas.Bool.{ltb-true}
use Rattle.std.proofs.lemmas.List.Sums.{sum_by-cons}
use Rattle.rv_asm.specs.declared.fault.AsmFault.TheVariants.{TwiceNamed}
use Rattle.rv_asm.specs.declared.statement.Section.{Section}
use Rattle.rv_asm.specs.declared.statement.Section.TheVariants as section
use Rattle.rv_asm.specs.declared.statement.ValueWidth.TheVariants as width
use Rattle.rv_asm.specs.declared.statement.Statement.{Statement}
use Rattle.rv_asm.specs.declared.statement.Statement.TheVariants as the
use Rattle.rv_asm.specs.Registers.{named}
use Rattle.rv_asm.specs.Checks.{in_text, may_stand, has_x31}
use Rattle.rv_asm.specs.Layout.{is_short, len_of}
use Rattle.rv_asm.specs.FirstPass.{Placed, Declaration, Draft, blank_draft, good_module, declaring, text_start, data_start, len_all, text_end, data_end, here, judged_line, define, define_all, define_own, placed_after, draft_after_statement, stepped, draft_after_lines}
use Rattle.rv_asm.specs.Assembly.{entry_at}
use Rattle.pn_types.specs.GoodNames.{is_good_name, program_module}
use Rattle.rv_asm.specs.declared.draft.DeclarationKind.{DeclarationKind}
use Rattle.rv_asm.specs.declared.draft.DeclarationKind.TheVariants as kind
use Rattle.rv_asm.proofs.Lengths.{ok_step, ok_is, passes_by, line_judged}
use Rattle.rv_asm.proofs.FormNames.{all_append, named_all}
use Rattle.rv_asm.proofs.CleanCode.{IsOfText}

-- an address in the text is that of a word; the data begins after all text
abbrev pub IsLabel : ℕ → Type 0
IsLabel at = (at % 4 ≡ 0) ⊎ (data_start ≤ at)

abbrev pub AreLabels : List (List ℕ × ℕ) → Type 0
AreLabels labels = AllByRecursion (λ (l : List ℕ × ℕ). IsLabel l.1) labels

abbrev pub AreOfModules : List Declaration → Type 0
AreOfModules declarations = AllByRecursion (λ m. is_good_name m.«module» ≡ true) declarations

pub record IsSound (d : Draft) : Type 0 where
  pub labels : AreLabels d.labels
  pub code : AllByRecursion (λ p. IsOfText p.statement) d.text_part
  pub source : is_good_name d.«module» ≡ true
  pub declarations : AreOfModules d.declarations

-- ---- lengths

number_whole : (b : Bool) → cond b 4 8 % 4 ≡ 0
number_whole true = refl
number_whole false = refl

-- what stands in the text has whole words
len_whole : (at : ℕ) (s : Statement) (text : List ℕ) (inside : Bool) → may_stand section.Text inside s ≡ true → len_of at s text % 4 ≡ 0
unfolding may_stand len_of
len_whole at (the.Value width.Word n) text inside h = refl
len_whole at (the.Value width.Byte n) text inside h = absurd (cc)
len_whole at (the.Value width.Half n) text inside h = absurd (cc)
len_whole at (the.Value width.Doubleword n) text inside h = absurd (cc)
len_whole at (the.Zeros n) text inside h = absurd (cc)
len_whole at (the.Align n) text inside h = absurd (cc)
len_whole at the.Ascii text inside h = absurd (cc)
len_whole at (the.Instruction i) text inside h = refl
len_whole at (the.Numbered i n) text inside h = refl
len_whole at (the.Jump i) text inside h = refl
len_whole at (the.LoadNumber rd n) text inside h = number_whole (is_short n)
len_whole at (the.LoadAddress rd) text inside h = refl
len_whole at other text inside h = refl

-- the text is whole words
part_whole : (ps : List Placed) → AllByRecursion (λ p. IsOfText p.statement) ps → len_all ps % 4 ≡ 0
part_whole [] all = refl
part_whole (p ∷ ps) all =
    let first = len_whole p.at p.statement p.text all.0.inside all.0.stands in
    let rest = part_whole ps all.1 in
    let sum = sum_by-cons (λ (q : Placed). len_of q.at q.statement q.text) p ps in
    omega (arith, first, rest)

-- ---- labels

here_label : (d : Draft) → IsSound d → IsLabel (here d)
here_label d is = by (in_text d.section)
  where
    by : (b : Bool) → IsLabel (cond b (text_end d) (data_end d))
    by true = let whole = part_whole d.text_part is.code in inl (omega arith)
    by false = inr (omega arith)

defined : (n at : ℕ) (name : List ℕ) (labels more : List (List ℕ × ℕ)) → IsLabel at → AreLabels labels → define n at name labels ≡ Ok more → AreLabels more
defined n at name labels more is all e =
    let a = passes_by (is_some (named name labels)) (TwiceNamed n) (Ok (labels ++ ((name, at) ∷ []))) more e in
    subst AreLabels (ok_is (labels ++ ((name, at) ∷ [])) more a.1) (all_append (λ (l : List ℕ × ℕ). IsLabel l.1) labels ((name, at) ∷ []) all (is, tt))

all_defined : (n at : ℕ) (names : List (List ℕ)) (labels more : List (List ℕ × ℕ)) → IsLabel at → AreLabels labels → define_all n at names labels ≡ Ok more → AreLabels more
all_defined n at [] labels more is all e = subst AreLabels (ok_is labels more e) all
all_defined n at (name ∷ names) labels more is all e =
    let one = ok_step (define n at name labels) (λ (next : List (List ℕ × ℕ)). define_all n at names next) more e in
    all_defined n at names one.0 more is (defined n at name labels one.0 is all one.1.0) one.1.1

own_defined : (n at : ℕ) (s : Statement) (name : List ℕ) (labels more : List (List ℕ × ℕ)) → IsLabel at → AreLabels labels → define_own n at s name labels ≡ Ok more → AreLabels more
own_defined n at the.Procedure name labels more is all e = defined n at name labels more is all e
own_defined n at (the.Object size) name labels more is all e = defined n at name labels more is all e
own_defined n at other name labels more is all e = subst AreLabels (ok_is labels more e) all

entry_by : (b : Bool) (at : ℕ) → nat_lt at data_start ≡ b → IsLabel at → cond b at text_start % 4 ≡ 0
entry_by true at is (inl h) = h
entry_by true at is (inr h) = let less = ltb-true at data_start is in absurd (omega arith)
entry_by false at is label = refl

entry_of : (o : Option ℕ) → ((at : ℕ) → o ≡ Some at → IsLabel at) → entry_at o % 4 ≡ 0
entry_of None label = refl
entry_of (Some at) label = entry_by (nat_lt at data_start) at refl (label at refl)

-- the entry is that of a word
pub entry_whole : (d : Draft) (name : List ℕ) → IsSound d → entry_at (named name d.labels) % 4 ≡ 0
entry_whole d name is = entry_of (named name d.labels) (λ at e. named_all IsLabel name d.labels at is.labels e)

-- ---- a line

placed_by : (s : Section) (n : ℕ) (d : Draft) (statement : Statement) (text : List ℕ) (inside : Bool) → d.section ≡ s → may_stand s inside statement ≡ true → has_x31 s statement ≡ false → IsSound d → IsSound (placed_after n d statement text)
placed_by section.Text n d statement text inside e h none is =
    let yes : in_text d.section ≡ true = ap in_text e in
    let one : IsOfText statement = record { inside = inside; stands = h; clean = none } in
    rw yes (record {
      labels = is.labels;
      source = is.source;
      declarations = is.declarations;
      code = all_append (λ (p : Placed). IsOfText p.statement) d.text_part (record { line = n; at = text_end d; statement = statement; text = text } ∷ []) is.code (one, tt);
    })
placed_by section.Data n d statement text inside e h none is =
    let no : in_text d.section ≡ false = ap in_text e in
    rw no (record { labels = is.labels; code = is.code; source = is.source; declarations = is.declarations })

same_parts : (d e : Draft) → e.labels ≡ d.labels → e.text_part ≡ d.text_part → is_good_name e.«module» ≡ true → AreOfModules e.declarations → IsSound d → IsSound e
same_parts d e l p m ms is = record {
  source = m;
  declarations = ms;
  labels = subst AreLabels (sym l) is.labels;
  code = subst (λ ps. AllByRecursion (λ (q : Placed). IsOfText q.statement) ps) (sym p) is.code;
}

declaring_sound : (d : Draft) (name : List ℕ) (what : DeclarationKind) (at : ℕ) → IsSound d → AreOfModules (declaring d name what at).declarations
declaring_sound d name what at is = all_append (λ (m : Declaration). is_good_name m.«module» ≡ true) d.declarations (record { name = name; kind = what; at = at; «module» = d.«module» } ∷ []) is.declarations (is.source, tt)

good_by : (b : Bool) (name : List ℕ) → is_good_name name ≡ b → is_good_name (cond b name program_module) ≡ true
good_by true name e = e
good_by false name e = refl

good_name : (name : List ℕ) → is_good_name (good_module name) ≡ true
good_name name = good_by (is_good_name name) name refl

after_sound : (n : ℕ) (d : Draft) (s : Statement) (text : List ℕ) (inside : Bool) → may_stand d.section inside s ≡ true → has_x31 d.section s ≡ false → IsSound d → IsSound (draft_after_statement n d s text)
unfolding draft_after_statement
after_sound n d the.Empty text inside h none is = is
after_sound n d the.Text text inside h none is = same_parts d _ refl refl is.source is.declarations is
after_sound n d the.Data text inside h none is = same_parts d _ refl refl is.source is.declarations is
after_sound n d the.Procedure text inside h none is = same_parts d _ refl refl is.source (declaring_sound d text kind.Procedure (text_end d) is) is
after_sound n d the.End text inside h none is = same_parts d _ refl refl is.source is.declarations is
after_sound n d (the.Object size) text inside h none is = same_parts d _ refl refl is.source (declaring_sound d text (kind.Object size.size) (data_end d) is) is
after_sound n d the.Module text inside h none is = same_parts d _ refl refl (good_name text) is.declarations is
after_sound n d other text inside h none is = placed_by d.section n d other text inside refl h none is

step_sound : (n : ℕ) (d e : Draft) (bytes : List ℕ) → stepped n d bytes ≡ Ok e → IsSound d → IsSound e
unfolding stepped
step_sound n d e bytes h is =
    let line = ok_step (judged_line n d.section (is_some d.opened) bytes) _ e h in
    let labels = ok_step (define_all n (here d) line.0.labels d.labels) _ e line.1.1 in
    let all = ok_step (define_own n (here d) line.0.statement line.0.text labels.0) _ e labels.1.1 in
    let at = here_label d is in
    let more = own_defined n (here d) line.0.statement line.0.text labels.0 all.0 at (all_defined n (here d) line.0.labels d.labels labels.0 at is.labels labels.1.0) all.1.0 in
    let passes = line_judged n d.section (is_some d.opened) bytes line.0 line.1.0 in
    subst IsSound (ok_is (draft_after_statement n (record d { labels = all.0 }) line.0.statement line.0.text) e all.1.1)
    (after_sound n (record d { labels = all.0 }) line.0.statement line.0.text (is_some d.opened) passes.stands passes.clean (record { labels = more; code = is.code; source = is.source; declarations = is.declarations }))

-- all lines
pub passed_sound : (n : ℕ) (d e : Draft) (ls : List (List ℕ)) → draft_after_lines n d ls ≡ Ok e → IsSound d → IsSound e
passed_sound n d e [] h is = subst IsSound (ok_is d e h) is
passed_sound n d e (line ∷ ls) h is =
    let more = ok_step (stepped n d line) (λ (more : Draft). draft_after_lines (n + 1) more ls) e h in
    passed_sound (n + 1) more.0 e ls more.1.1 (step_sound n d more.0 line more.1.0 is)

pub blank_sound : IsSound blank_draft
blank_sound = record { labels = tt; code = tt; source = refl; declarations = tt }
