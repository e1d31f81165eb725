-- The readers of words one of which is chosen.
use Rattle.std.proofs.Common.{◌≡◌, ℕ, Bool, true, false, List, [], ◌∷◌, Some, refl, ap, ◌∙◌, cond, subst}
use Rattle.std.specs.Prelude.{bytes_eq}
use Rattle.std.specs.List.{AllByRecursion}
use Rattle.std.proofs.lemmas.Slice.Eq.{bytes_eq-Decides}
use Rattle.pn_types.specs.declared.compare.Cmp.{Cmp}
use Rattle.pn_types.specs.declared.compare.Cmp.TheVariants.{Eq, Ne, Lt, Le, Gt, Ge}
use Rattle.pn_text.specs.Words.{Word, NameWord, NumberWord, DollarFocus, DollarAll, DollarMetric, DollarValue, DollarArg, SignWord}
use Rattle.pn_text.specs.declared.token.Sign.{Sign}
use Rattle.pn_text.specs.declared.token.Sign.TheVariants.{PlusPlus, MinusMinus, Assign, Equal, NotEqual, Less, LessEqual, Greater, GreaterEqual}
use Rattle.mdl_parse.specs.WordsInText.{IsWord}
use Rattle.mdl_ast.specs.declared.action.VarName.{VarName}
use Rattle.mdl_ast.specs.declared.action.VarName.TheVariants.{Named, TheMetric}
use Rattle.mdl_ast.specs.declared.action.RightSide.{RightSide}
use Rattle.mdl_ast.specs.declared.action.RightSide.TheVariants.{Number, Value}
use Rattle.mdl_ast.specs.declared.block.EventKind.{EventKind}
use Rattle.mdl_ast.specs.declared.block.EventKind.TheVariants.{Entry, After, Return, Call}
use Rattle.mdl_ast.specs.declared.block.Set.{Set}
use Rattle.mdl_ast.specs.declared.block.Set.TheVariants as set
use Rattle.mdl_parse.specs.declared.change.Change.{Change}
use Rattle.mdl_parse.specs.declared.change.Change.TheVariants.{Up, Down, Put}
use Rattle.mdl_parse.specs.Picks.{row_of, choices, choice_of, events, event_of, var_of, right_of, sign_cmp, cmp_of, sign_step, step_of, whole_of}
use Rattle.mdl_parse.specs.Readers.{choice_at, event_at, var_at, right_at, cmp_at, step_at, whole_at}
use Rattle.mdl_parse.specs.Grammar.{keyword, var_word, right_word, cmp_sign, event_name}
use Rattle.mdl_parse.specs.Shapes.{SetShaped}
use Rattle.mdl_parse.proofs.Readers.{Reads, closed, any, one as one_word, plainly, leaf_reads}
use Rattle.mdl_parse.proofs.Options.{of_kind}
use Rattle.mdl_parse.proofs.Combine.{leaf_any}

-- ---- choices

pub some_is : {A : Type 0} (x y : A) → Some x ≡ Some y → x ≡ y
some_is x y e = cc

-- what a table of names says of a name
table_is : {A : Type 0} (name_of : A → List ℕ) (rows : List (List ℕ × A)) (name : List ℕ) (a : A) → AllByRecursion (λ row. row.0 ≡ name_of row.1) rows → row_of rows name ≡ Some a → name ≡ name_of a
table_is name_of [] name a same e = absurd cc
table_is name_of (row ∷ rows) name a same e = go (bytes_eq name row.0) refl e (λ e. table_is name_of rows name a same.1 e)
  where
    go : (b : Bool) → bytes_eq name row.0 ≡ b → cond b (Some row.1) (row_of rows name) ≡ Some a → (row_of rows name ≡ Some a → name ≡ name_of a) → name ≡ name_of a
    go true h e others = (bytes_eq-Decides name row.0).0 h ∙ same.0 ∙ ap name_of (some_is row.1 a e)
    go false h e others = others e

-- the first or the second keyword
abbrev pub choice_word : List ℕ → List ℕ → Bool → Word
choice_word one other b = keyword (cond b one other)

choice_picked : (one other : List ℕ) (w : Word) (b : Bool) → choice_of one other w ≡ Some b → w ≡ choice_word one other b
choice_picked one other (NameWord x) b e = ap NameWord (table_is (λ is_one. cond is_one one other) (choices one other) x b (refl, (refl, tt)) e)
choice_picked one other w b e = absurd cc

choice_again : (one other : List ℕ) → bytes_eq other one ≡ false → (b : Bool) → choice_of one other (choice_word one other b) ≡ Some b
choice_again one other apart true = rw ((bytes_eq-Decides one one).1 refl) refl
choice_again one other apart false = rw (apart, (bytes_eq-Decides other other).1 refl) refl

pub choice_reads : (one other : List ℕ) → bytes_eq other one ≡ false → IsWord (keyword one) → Reads (λ n. choice_at one other) (one_word (choice_word one other)) any closed
choice_reads one other apart good = leaf_any (choice_of one other) (choice_word one other) (choice_picked one other) (choice_again one other apart) true good

event_picked : (w : Word) (k : EventKind) → event_of w ≡ Some k → w ≡ keyword (event_name k)
event_picked (NameWord x) k e = ap NameWord (table_is event_name events x k (refl, (refl, (refl, (refl, tt)))) e)
event_picked w k e = absurd cc

event_again : (k : EventKind) → event_of (keyword (event_name k)) ≡ Some k
event_again Entry = refl
event_again After = refl
event_again Return = refl
event_again Call = refl

pub event_reads : Reads (λ n. event_at) (one_word (λ k. keyword (event_name k))) any closed
event_reads = leaf_any event_of (λ k. keyword (event_name k)) event_picked event_again Entry refl

pub var_picked : (w : Word) (v : VarName) → var_of w ≡ Some v → w ≡ var_word v
var_picked (NameWord x) v e = ap var_word (some_is (Named x) v e)
var_picked DollarMetric v e = ap var_word (some_is TheMetric v e)
var_picked w v e = absurd cc

pub var_again : (v : VarName) → var_of (var_word v) ≡ Some v
var_again (Named name) = refl
var_again TheMetric = refl

pub var_reads : Reads (λ n. var_at) (one_word var_word) any closed
var_reads = leaf_any var_of var_word var_picked var_again TheMetric refl

right_picked : (w : Word) (v : RightSide) → right_of w ≡ Some v → w ≡ right_word v
right_picked (NumberWord x) v e = ap right_word (some_is (Number x) v e)
right_picked DollarValue v e = ap right_word (some_is Value v e)
right_picked w v e = absurd cc

right_again : (v : RightSide) → right_of (right_word v) ≡ Some v
right_again (Number n) = refl
right_again Value = refl

pub right_reads : Reads (λ n. right_at) (one_word right_word) any closed
right_reads = leaf_any right_of right_word right_picked right_again Value refl

-- ---- signs that mean something

abbrev cmp_word : Cmp → Word
cmp_word c = SignWord (cmp_sign c)

cmp_sign-is : (sign : Sign) (c : Cmp) → sign_cmp sign ≡ Some c → SignWord sign ≡ cmp_word c
cmp_sign-is Equal c e = ap cmp_word (some_is Eq c e)
cmp_sign-is NotEqual c e = ap cmp_word (some_is Ne c e)
cmp_sign-is Less c e = ap cmp_word (some_is Lt c e)
cmp_sign-is LessEqual c e = ap cmp_word (some_is Le c e)
cmp_sign-is Greater c e = ap cmp_word (some_is Gt c e)
cmp_sign-is GreaterEqual c e = ap cmp_word (some_is Ge c e)
cmp_sign-is sign c e = absurd cc

cmp_picked : (w : Word) (c : Cmp) → cmp_of w ≡ Some c → w ≡ cmp_word c
cmp_picked (SignWord x) c e = cmp_sign-is x c e
cmp_picked w c e = absurd cc

cmp_again : (c : Cmp) → cmp_of (cmp_word c) ≡ Some c
cmp_again Eq = refl
cmp_again Ne = refl
cmp_again Lt = refl
cmp_again Le = refl
cmp_again Gt = refl
cmp_again Ge = refl

pub cmp_reads : Reads (λ n. cmp_at) (one_word (λ c. SignWord (cmp_sign c))) any closed
cmp_reads = leaf_any cmp_of cmp_word cmp_picked cmp_again Eq refl

-- `++` and `--`
abbrev pub is_put : Change → Bool
is_put (Put n) = true
is_put change = false

abbrev pub step_word : Change → Word
step_word Up = SignWord PlusPlus
step_word Down = SignWord MinusMinus
step_word (Put n) = SignWord Assign

abbrev IsStep : Change → Type 0
IsStep c = (is_put c ≡ false) × Unit {0}

abbrev Stepped : Word → Change → Type 0
Stepped w c = (w ≡ step_word c) × IsStep c

step_sign-is : (sign : Sign) (c : Change) → sign_step sign ≡ Some c → Stepped (SignWord sign) c
step_sign-is PlusPlus c e = subst (Stepped (SignWord PlusPlus)) (some_is Up c e) (refl, (refl, tt))
step_sign-is MinusMinus c e = subst (Stepped (SignWord MinusMinus)) (some_is Down c e) (refl, (refl, tt))
step_sign-is sign c e = absurd cc

step_picked : (w : Word) (c : Change) → step_of w ≡ Some c → Stepped w c
step_picked (SignWord x) c e = step_sign-is x c e
step_picked w c e = absurd cc

step_again : (c : Change) → IsStep c → step_of (step_word c) ≡ Some c
step_again Up h = refl
step_again Down h = refl
step_again (Put n) h = absurd (let e = h.0 in cc)

pub step_reads : Reads (λ n. step_at) (one_word step_word) (of_kind is_put any false) closed
step_reads = leaf_reads step_of step_word IsStep step_picked step_again Up (refl, tt) refl

-- `$focus` and `$all`
abbrev pub is_named : Set → Bool
is_named (set.Names names) = true
is_named s = false

abbrev pub whole_word : Set → Word
whole_word set.Focus = DollarFocus
whole_word set.All = DollarAll
whole_word (set.Names names) = DollarArg

abbrev IsWhole : Set → Type 0
IsWhole s = (is_named s ≡ false) × SetShaped s

abbrev Wholly : Word → Set → Type 0
Wholly w s = (w ≡ whole_word s) × IsWhole s

whole_picked : (w : Word) (s : Set) → whole_of w ≡ Some s → Wholly w s
whole_picked DollarFocus s e = subst (Wholly DollarFocus) (some_is set.Focus s e) (refl, (refl, tt))
whole_picked DollarAll s e = subst (Wholly DollarAll) (some_is set.All s e) (refl, (refl, tt))
whole_picked w s e = absurd cc

whole_again : (s : Set) → IsWhole s → whole_of (whole_word s) ≡ Some s
whole_again set.Focus h = refl
whole_again set.All h = refl
whole_again (set.Names names) h = absurd (let e = h.0 in cc)

pub whole_reads : Reads (λ n. whole_at) (one_word whole_word) (of_kind is_named (plainly SetShaped) false) closed
whole_reads = leaf_reads whole_of whole_word IsWhole whole_picked whole_again set.Focus (refl, tt) refl
