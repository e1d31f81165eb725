-- How long the data and the names of a text can be, and that its procedures and objects have names without a zero byte.
use Rattle.std.proofs.Common.{◌≡◌, ℕ, ◌+◌, ◌*◌, ◌≤◌, ◌==◌, ◌&&◌, ◌⊎◌, inl, inr, cond, not, Bool, true, false, Option, Some, None, Result, Ok, Err, List, [], ◌∷◌, length, take, refl, ap, subst, arith}
use Rattle.std.specs.List.{AllByRecursion, sum_by, onto_first}
use Rattle.std.specs.Option.{is_some}
use Rattle.std.specs.Int.{w64, to_le_bytes}
use Rattle.std.specs.Prelude.{nat_le}
use Rattle.std.proofs.lemmas.Bool.{leb-true}
use Rattle.std.proofs.lemmas.Grind.{common_steps}
use Rattle.std.proofs.lemmas.List.{length-take, length-replicate, length-append}
use Rattle.std.proofs.lemmas.List.Sums.{sum_by-cons, sum_by_push}
use Rattle.pn_text.specs.Lines.{lines, begins_with_lf}
use Rattle.rv_asm.specs.declared.fault.AsmFault.{AsmFault}
use Rattle.rv_asm.specs.declared.fault.AsmFault.TheVariants.{BadLine, BadNumber, UsesScratch}
use Rattle.rv_asm.specs.declared.draft.DeclarationKind.{DeclarationKind}
use Rattle.rv_asm.specs.declared.draft.DeclarationKind.TheVariants as kind
use Rattle.rv_asm.specs.declared.statement.Section.{Section}
use Rattle.rv_asm.specs.declared.statement.Statement.{Statement}
use Rattle.rv_asm.specs.declared.statement.Statement.TheVariants as the
use Rattle.rv_asm.specs.Numbers.{wrapped}
use Rattle.rv_asm.specs.Checks.{in_text, may_stand, numbers_fit, has_x31}
use Rattle.rv_asm.specs.Layout.{width_len, value_bytes, padding, len_of, data_of}
use Rattle.rv_asm.specs.Parsing.{LineParts, line_of}
use Rattle.rv_asm.specs.FirstPass.{◌>>=◌, Placed, Declaration, Draft, blank_draft, len_all, text_end, data_end, here, judged_form, judged_line, define_all, define_own, good_module, placed_after, declaring, draft_after_statement, stepped, draft_after_lines}
use Rattle.pn_types.specs.GoodNames.{is_good_name, program_module}
use Rattle.rv_asm.specs.Assembly.{data_bytes}
use Rattle.rv_asm.proofs.FormNames.{IsClean, all_append}
use Rattle.rv_asm.proofs.Shorter.{Fits, line_fits}

-- ---- the data

value_len : (n value : ℕ) → length (take n (to_le_bytes w64 value)) ≤ n
value_len n value = let e = length-take n (to_le_bytes w64 value) in omega arith

-- a statement of the data has no more bytes than room
data_len : (at : ℕ) (s : Statement) (text : List ℕ) → length (data_of at s text) ≤ len_of at s text
unfolding data_of len_of value_bytes
data_len at (the.Value w n) text = value_len (width_len w) (wrapped n)
data_len at (the.Zeros n) text = let e = length-replicate {A = ℕ} n.size 0 in omega arith
data_len at (the.Align n) text = let e = length-replicate {A = ℕ} (padding n.size at) 0 in omega arith
data_len at the.Ascii text = omega arith
data_len at other text = omega arith

-- the data is no longer than its statements
pub data_short : (ps : List Placed) → length (data_bytes ps) ≤ len_all ps
data_short [] = omega arith
data_short (p ∷ ps) =
    let rest = data_short ps in
    let first = data_len p.at p.statement p.text in
    let joint = length-append (data_of p.at p.statement p.text) (data_bytes ps) in
    let sum = sum_by-cons (λ (q : Placed). len_of q.at q.statement q.text) p ps in
    omega arith

-- ---- a line

-- how much room the names of a declaration take, at most, in a table of strings
abbrev pub declaration_room : Declaration → ℕ
declaration_room m = length m.name + length m.module + 2

abbrev pub declarations_room : Draft → ℕ
declarations_room d = sum_by declaration_room d.declarations

abbrev pub AreNamed : List Declaration → Type 0
AreNamed declarations = AllByRecursion (λ (m : Declaration). IsClean m.name) declarations

-- the module's name is short, and the names of the declarations are clean
pub record IsTight (d : Draft) : Type 0 where
  pub short : length d.module ≤ 200
  pub named : AreNamed d.declarations

-- a line of `len` bytes leads from one draft to another
record Leads (len : ℕ) (d e : Draft) : Type 0 where
  count : length e.declarations ≤ length d.declarations + 1
  room : declarations_room e ≤ declarations_room d + 127 * (len + 1)
  tight : IsTight e

stays : (len : ℕ) (d e : Draft) → e.declarations ≡ d.declarations → IsTight e → Leads len d e
stays len d e same tight = record { count = let n = ap (λ ms. length ms) same in omega arith; room = let g : declarations_room e ≡ declarations_room d = ap (sum_by declaration_room) same in omega arith; tight = tight }

placed_leads : (n len : ℕ) (d : Draft) (s : Statement) (text : List ℕ) → IsTight d → Leads len d (placed_after n d s text)
placed_leads n len d s text tight = by (in_text d.section) _ _ (stays len d _ refl (record { short = tight.short; named = tight.named })) (stays len d _ refl (record { short = tight.short; named = tight.named }))
  where
    by : (b : Bool) (x y : Draft) → Leads len d x → Leads len d y → Leads len d (cond b x y)
    by true x y p q = p
    by false x y p q = q

declaring_leads : (len : ℕ) (d : Draft) (name : List ℕ) (what : DeclarationKind) (at : ℕ) (opened : Option ℕ) → length name ≤ len → 1 ≤ len → IsClean name → IsTight d → Leads len d (record (declaring d name what at) { opened = opened })
declaring_leads len d name what at opened within some clean tight =
    let one : Declaration = record { name = name; kind = what; at = at; «module» = d.module } in
    let short = tight.short in
    let sum = sum_by_push declaration_room d.declarations one in
    record {
      count = omega (arith, length-append d.declarations (one ∷ []));
      room = omega arith;
      tight = record { short = short; named = all_append (λ (m : Declaration). IsClean m.name) d.declarations (one ∷ []) tight.named (clean, tt) };
    }

good_by : (b : Bool) (name : List ℕ) → is_good_name name ≡ b → length (cond b name program_module) ≤ 200
good_by true name e = let short : nat_le (length name) 200 ≡ true = grind (arith, common_steps) in leb-true (length name) 200 short
good_by false name e = omega arith

good_short : (name : List ℕ) → length (good_module name) ≤ 200
good_short name = good_by (is_good_name name) name refl

after_leads : (n len : ℕ) (d : Draft) (s : Statement) (text : List ℕ) → Fits s text len → IsTight d → Leads len d (draft_after_statement n d s text)
unfolding draft_after_statement
after_leads n len d the.Empty text fits tight = stays len d d refl tight
after_leads n len d the.Text text fits tight = stays len d _ refl (record { short = tight.short; named = tight.named })
after_leads n len d the.Data text fits tight = stays len d _ refl (record { short = tight.short; named = tight.named })
after_leads n len d the.Procedure text fits tight = declaring_leads len d text kind.Procedure (text_end d) (Some n) fits.within (nonempty fits.some) fits.named tight
  where
    nonempty : ((the.Procedure ≡ the.Empty) ⊎ (1 ≤ len)) → 1 ≤ len
    nonempty (inl e) = absurd (cc)
    nonempty (inr l) = l
after_leads n len d the.End text fits tight = stays len d _ refl (record { short = tight.short; named = tight.named })
after_leads n len d (the.Object size) text fits tight = declaring_leads len d text (kind.Object size.size) (data_end d) d.opened fits.within (nonempty fits.some) fits.named tight
  where
    nonempty : ((the.Object size ≡ the.Empty) ⊎ (1 ≤ len)) → 1 ≤ len
    nonempty (inl e) = absurd (cc)
    nonempty (inr l) = l
after_leads n len d the.Module text fits tight = stays len d _ refl (record { short = good_short text; named = tight.named })
after_leads n len d other text fits tight = placed_leads n len d other text tight

-- ---- results

pub ok_step : {A B : Type 0} (r : Result A AsmFault) (f : A → Result B AsmFault) (x : B) → (r >>= f) ≡ Ok x → (a : A) × ((r ≡ Ok a) × (f a ≡ Ok x))
ok_step (Ok a) f x e = (a, (refl, e))
ok_step (Err fault) f x e = absurd (cc)

pub ok_is : {A : Type 0} (a x : A) → ◌≡◌ {A = Result A AsmFault} (Ok a) (Ok x) → a ≡ x
ok_is a x e = cc

pub passes_by : {A : Type 0} (b : Bool) (fault : AsmFault) (r : Result A AsmFault) (x : A) → cond b (Err fault) r ≡ Ok x → (b ≡ false) × (r ≡ Ok x)
passes_by true fault r x e = absurd (cc)
passes_by false fault r x e = (refl, e)

not_false : (b : Bool) → not b ≡ false → b ≡ true
not_false true h = refl
not_false false h = absurd (cc)

-- a line that has a form, stands where it is and doesn't name x31
pub record IsJudged (s : Section) (inside : Bool) (bytes : List ℕ) (line : LineParts) : Type 0 where
  pub form : line_of bytes ≡ Some line
  pub stands : may_stand s inside line.statement ≡ true
  pub clean : has_x31 s line.statement ≡ false

pub line_judged : (n : ℕ) (s : Section) (inside : Bool) (bytes : List ℕ) (found : LineParts) → judged_line n s inside bytes ≡ Ok found → IsJudged s inside bytes found
unfolding judged_line
line_judged n s inside bytes found e = by (line_of bytes) refl e
  where
    by : (o : Option LineParts) → line_of bytes ≡ o → judged_form n s inside o ≡ Ok found → IsJudged s inside bytes found
    by None is h = absurd (cc)
    by (Some line) is h =
        let third : Result LineParts AsmFault = cond (has_x31 s line.statement) (Err (UsesScratch n)) (Ok line) in
        let second : Result LineParts AsmFault = cond (not (numbers_fit line.statement)) (Err (BadNumber n)) third in
        let a = passes_by (not (may_stand s inside line.statement)) (BadLine n) second found h in
        let b = passes_by (not (numbers_fit line.statement)) (BadNumber n) third found a.1 in
        let c = passes_by (has_x31 s line.statement) (UsesScratch n) (Ok line) found b.1 in
        subst (IsJudged s inside bytes) (ok_is line found c.1) (record { form = is; stands = not_false _ a.0; clean = c.0 })

step_leads : (n : ℕ) (d e : Draft) (bytes : List ℕ) → stepped n d bytes ≡ Ok e → IsTight d → Leads (length bytes) d e
unfolding stepped
step_leads n d e bytes h tight =
    let line = ok_step (judged_line n d.section (is_some d.opened) bytes) _ e h in
    let labels = ok_step (define_all n (here d) line.0.labels d.labels) _ e line.1.1 in
    let all = ok_step (define_own n (here d) line.0.statement line.0.text labels.0) _ e labels.1.1 in
    let is = ok_is (draft_after_statement n (record d { labels = all.0 }) line.0.statement line.0.text) e all.1.1 in
    let fits = line_fits bytes line.0 (line_judged n d.section (is_some d.opened) bytes line.0 line.1.0).form in
    let leads = after_leads n (length bytes) (record d { labels = all.0 }) line.0.statement line.0.text fits (record { short = tight.short; named = tight.named }) in
    subst (λ (e : Draft). Leads (length bytes) d e) is (record { count = leads.count; room = leads.room; tight = leads.tight })

-- ---- the lines

-- how many bytes lines have, each with its end
abbrev pub lines_len : List (List ℕ) → ℕ
lines_len ls = sum_by (λ (l : List ℕ). length l + 1) ls

pub record Passes (len : ℕ) (d e : Draft) : Type 0 where
  pub count : length e.declarations ≤ length d.declarations + len
  pub room : declarations_room e ≤ declarations_room d + 127 * len
  pub tight : IsTight e

pub passed_leads : (n : ℕ) (d e : Draft) (ls : List (List ℕ)) → draft_after_lines n d ls ≡ Ok e → IsTight d → Passes (lines_len ls) d e
passed_leads n d e [] h tight = subst (λ (e : Draft). Passes 0 d e) (ok_is d e h) (record { count = omega arith; room = omega arith; tight = tight })
passed_leads n d e (line ∷ ls) h tight =
    let more = ok_step (stepped n d line) (λ (more : Draft). draft_after_lines (n + 1) more ls) e h in
    let first = step_leads n d more.0 line more.1.0 tight in
    let rest = passed_leads (n + 1) more.0 e ls more.1.1 first.tight in
    let sum = sum_by-cons (λ (l : List ℕ). length l + 1) line ls in
    let f = first.room in
    let r = rest.room in
    let fc = first.count in
    let rc = rest.count in
    record { count = omega arith; room = omega arith; tight = rest.tight }

first_longer : (byte : ℕ) (ls : List (List ℕ)) (n : ℕ) → lines_len ls ≤ n + 1 → lines_len (onto_first byte ls) ≤ n + 2
first_longer byte [] n h = let e = sum_by-cons (λ (l : List ℕ). length l + 1) (byte ∷ []) [] in omega arith
first_longer byte (l ∷ ls) n h =
    let e = sum_by-cons (λ (l : List ℕ). length l + 1) (byte ∷ l) ls in
    let g = sum_by-cons (λ (l : List ℕ). length l + 1) l ls in
    omega arith

lines_by : (lf cr : Bool) (byte : ℕ) (bytes : List ℕ) → lines_len (lines bytes) ≤ length bytes + 1 → lines_len (cond lf ([] ∷ lines bytes) (cond cr (lines bytes) (onto_first byte (lines bytes)))) ≤ length bytes + 2
lines_by true cr byte bytes h = let e = sum_by-cons (λ (l : List ℕ). length l + 1) [] (lines bytes) in omega arith
lines_by false true byte bytes h = omega arith
lines_by false false byte bytes h = first_longer byte (lines bytes) (length bytes) h

-- the lines have no more bytes than the text, and one for a last line without an end
pub lines_shorter : (text : List ℕ) → lines_len (lines text) ≤ length text + 1
lines_shorter [] = omega arith
lines_shorter (byte ∷ bytes) =
    let h = lines_by (byte == 10) ((byte == 13) && begins_with_lf bytes) byte bytes (lines_shorter bytes) in
    omega arith

pub blank_tight : IsTight blank_draft
blank_tight = record { short = omega arith; named = tt }
