-- What `ask` asks for is asked at foci of the program.
use Rattle.std.proofs.Common.{◌≡◌, ◌≤◌, ℕ, Bool, true, false, cond, List, [], ◌∷◌, map, Option, Some, None, Ok, Err, refl, sym, ap, ◌∙◌, subst}
use Rattle.std.proofs.lemmas.List.Elements.{All-cons, All-nil}
use Rattle.std.specs.Prelude.{All, is_some, nat_le, nat_lt}
use Rattle.std.specs.List.{AllByRecursion, filter, list_all}
use Rattle.code_points.proofs.NamedProcs.{names_good}
use Rattle.code_points.specs.Objects.{objects_of}
use Rattle.code_points.specs.Procedures.{procedures_of}
use Rattle.command_words.specs.Requests.{AskRequest}
use Rattle.command_words.specs.declared.requests.NodeKind.{NodeKind}
use Rattle.command_words.specs.declared.requests.NodeKind.TheVariants.{Procedure, Module, Lock, Hart}
use Rattle.commands.proofs.Procs.{are_procs}
use Rattle.commands.proofs.Runnable.{IsGood, good_image}
use Rattle.commands.specs.Asking.{AreCodeFoci, AreFoci, IsAsk, IsAskAt, asked_text, code_foci, executed, known, or_one, source_of}
use Rattle.commands.specs.Found.{AreFound}
use Rattle.commands.specs.Output.{output}
use Rattle.commands.specs.Plans.{IsSelected, metric_named}
use Rattle.commands.specs.Profiles.{IsProfiled}
use Rattle.commands.specs.Runnable.{IsImageOf}
use Rattle.commands.specs.declared.finding.Found.{Found}
use Rattle.commands.specs.declared.texts.Texts.{Texts}
use Rattle.mdl_ast.specs.declared.items.Conf.{Conf}
use Rattle.mdl_ast.specs.declared.metric.Metric.{Metric}
use Rattle.mdl_check.specs.Checking.{prefixes_of}
use Rattle.mdl_shipped.specs.Shipped.{shipped_conf}
use Rattle.pn_types.specs.declared.code.Proc.{Proc}
use Rattle.pn_types.specs.declared.focus.Axis.TheVariants.{Machine, SyncObject}
use Rattle.pn_types.specs.declared.focus.Focus.{Focus}
use Rattle.pn_types.specs.declared.image.Image.{Image}
use Rattle.pn_types.specs.declared.limits.TheConstants.{MAX_HARTS}
use Rattle.profile_text.specs.Rows.{Row, by_ticks, insert_by_ticks, procedure_row, rows_of}
use Rattle.refusals.specs.Kinds.{fault_at}
use Rattle.refusals.specs.Refusals.{Then}
use Rattle.refusals.specs.declared.configuration.ConfKind.TheVariants.{UnknownName}
use Rattle.refusals.specs.declared.fault.Fault.TheVariants.{BadConf}
use Rattle.resource_tree.proofs.InTree.{focus_in}
use Rattle.resource_tree.proofs.Named.{tree_named}
use Rattle.resource_tree.specs.Foci.{IsFocusOf, IsTextOf, canonical, children}
use Rattle.resource_tree.specs.Names.{AreNamed, IsNamed}
use Rattle.resource_tree.specs.Resources.{Resources, code_of}
use Rattle.word_counts.specs.declared.profile.Profile.{Profile}
use Rattle.headline.specs.AskedFoci.{IsAskedAt, SelectsWithin}
use Rattle.headline.proofs.AskedFoci.{IsThere, all_at, all_kept, harts_within, locks_within, modules_within, own, procedures_within}
use Rattle.headline.proofs.Ranges.{IsPaced}
use Rattle.headline.proofs.Steps.{came, ok_is}

-- ---- the tree

record IsTreeOf (image : Image) (t : Resources) : Type 0 where
  named : IsNamed t
  code : t.code ≡ code_of (procedures_of image)
  few : t.harts ≤ MAX_HARTS

procs_named : (image : Image) → IsGood image → AreNamed (procedures_of image)
procs_named image good =
    let are = are_procs image good.is in
    record {
      good = names_good image (procedures_of image) are good.modules;
      apart = are.distinct;
    }

tree_is : (bytes : List ℕ) (image : Image) (harts : ℕ) (conf : Conf) (found : Found) → IsImageOf bytes image → harts ≤ MAX_HARTS → AreFound image harts conf found → IsTreeOf image found.tree
tree_is bytes image harts conf found holds few are =
    subst (IsTreeOf image) (sym are.tree) (record { named = tree_named (procedures_of image) (objects_of image) harts (prefixes_of shipped_conf.items conf.items) (procs_named image (good_image bytes image holds)); code = refl; few = few })

-- ---- procedures that were executed

some_all : {X : Type 0} (P : X → Type 0) (x : X) (xs : List X) → P x → All P xs → All P (or_one x xs)
some_all P x [] p all = All-cons P x [] p (All-nil P)
some_all P x (y ∷ ys) p all = all

inserted : (P : Row → Type 0) (x : Row) (xs : List Row) → P x → AllByRecursion P xs → AllByRecursion P (insert_by_ticks x xs)
inserted P x [] p all = (p, tt)
inserted P x (y ∷ ys) p all = by (nat_le y.ticks x.ticks) (inserted P x ys p all.1)
  where
    by : (b : Bool) → AllByRecursion P (insert_by_ticks x ys) → AllByRecursion P (cond b (x ∷ (y ∷ ys)) (y ∷ insert_by_ticks x ys))
    by true rest = (p, all)
    by false rest = (all.0, rest)

sorted : (P : Row → Type 0) (xs : List Row) → AllByRecursion P xs → AllByRecursion P (by_ticks xs)
sorted P [] all = tt
sorted P (x ∷ xs) all = inserted P x (by_ticks xs) all.0 (sorted P xs all.1)

rows_there : (P : Proc → Type 0) (image : Image) (r : Profile) (ps : List Proc) → AllByRecursion P ps → AllByRecursion (λ (x : Row). P x.proc) (map (procedure_row image r) ps)
rows_there P image r [] all = tt
rows_there P image r (p ∷ ps) all = (all.0, rows_there P image r ps all.1)

procs_there : (P : Proc → Type 0) (rows : List Row) → AllByRecursion (λ (x : Row). P x.proc) rows → AllByRecursion P (map (λ row. row.proc) rows)
procs_there P [] all = tt
procs_there P (x ∷ xs) all = (all.0, procs_there P xs all.1)

module _ (image : Image) (t : Resources) (tree : IsTreeOf image t) (under : Focus) (inside : IsFocusOf t under) where
  abbrev There : Proc → Type 0
  There p = IsThere t (tree.named) (tree.few) under inside (procedures_of image) (tree.code) p

  abbrev Within : List ℕ → Type 0
  Within = SelectsWithin t under

  executed_there : (r : Profile) → AllByRecursion There (executed image r)
  executed_there r =
      let row : Row → Type 0 = λ x. There x.proc in
      procs_there There (filter (λ x. nat_lt 0 x.ticks) (rows_of image (procedures_of image) r))
      (all_kept row (λ x. nat_lt 0 x.ticks) (rows_of image (procedures_of image) r)
      (sorted row (map (procedure_row image r) (procedures_of image))
      (rows_there There image r (procedures_of image) (all_at There (procedures_of image) (λ i p e. record { place = i; at = e })))))

  own_focus : Within (canonical t under)
  own_focus = own t tree.named tree.few under inside

  code_within : (by_module : Bool) (r : Profile) → All Within (code_foci by_module (canonical t under) (executed image r))
  code_within false r =
      some_all Within (canonical t under) _ own_focus (procedures_within t tree.named tree.few under inside (procedures_of image) tree.code (executed image r) (executed_there r))
  code_within true r =
      some_all Within (canonical t under) _ own_focus (modules_within t tree.named tree.few under inside (procedures_of image) tree.code (executed image r) (executed_there r))

  coded : (by_module : Bool) (q : AskRequest) (foci : List (List ℕ)) → AreCodeFoci by_module q image (canonical t under) (Ok foci) → All Within foci
  coded by_module q foci are =
      let r = came (IsProfiled (source_of q) image) (λ r found. found ≡ Ok (code_foci by_module (canonical t under) (executed image r))) foci are in
      subst (All Within) (sym (ok_is foci (code_foci by_module (canonical t under) (executed image r.a)) r.next)) (code_within by_module r.a)

  foci_within : (each : Option NodeKind) (q : AskRequest) (foci : List (List ℕ)) → AreFoci each q image t under (Ok foci) → All Within foci
  foci_within None q foci are =
      subst (All Within) (sym (ok_is foci (canonical t under ∷ []) are)) (All-cons Within (canonical t under) [] own_focus (All-nil Within))
  foci_within (Some Procedure) q foci are = coded false q foci are
  foci_within (Some Module) q foci are = coded true q foci are
  foci_within (Some Lock) q foci are =
      subst (All Within) (sym (ok_is foci _ are)) (some_all Within (canonical t under) (map (canonical t) (children t under SyncObject)) own_focus (locks_within t tree.named tree.few under inside))
  foci_within (Some Hart) q foci are =
      subst (All Within) (sym (ok_is foci _ are)) (some_all Within (canonical t under) (map (canonical t) (children t under Machine)) own_focus (harts_within t tree.named tree.few under inside))

-- ---- the whole

known_are : (metrics : List Metric) (names found : List (List ℕ)) → Ok found ≡ known metrics names → (list_all (λ name. is_some (metric_named metrics name)) names ≡ true) × (found ≡ names)
known_are metrics names found = by (list_all (λ name. is_some (metric_named metrics name)) names)
  where
    by : (b : Bool) → Ok found ≡ cond b (Ok names) (Err (BadConf (fault_at 0 0 UnknownName))) → (b ≡ true) × (found ≡ names)
    by true e = (refl, ok_is found names e)
    by false e = absurd (cc)

selected_is : (t : Resources) (text : List ℕ) (focus : Focus) → IsSelected t text (Ok focus) → IsTextOf t text focus
selected_is t text focus (Some f, selects, e) = subst (IsTextOf t text) (sym (ok_is focus f e)) selects
selected_is t text focus (None, selects, e) = absurd (cc)

pub asked_at : (q : AskRequest) (bytes : List ℕ) (image : Image) (conf : Conf) (found : Found) (texts : Texts) → IsImageOf bytes image → IsPaced q.counted
    → AreFound image q.counted.harts conf found → IsAsk q image found (Ok texts) → IsAskedAt q image found texts
asked_at q bytes image conf found texts holds paced are due =
    let t = found.tree in
    let n = came (λ names. names ≡ known found.checked.metrics q.metrics) (λ names. Then (IsSelected t q.under) (IsAskAt q image t names)) texts due in
    let k = known_are found.checked.metrics q.metrics n.a n.first in
    let u = came (IsSelected t q.under) (IsAskAt q image t n.a) texts n.next in
    let selected = selected_is t q.under u.a u.first in
    let f = came (AreFoci q.each q image t u.a) (λ foci out. out ≡ Ok (output (asked_text q n.a foci))) texts u.next in
    let inside = subst (λ (x : Focus). IsFocusOf t x) refl (focus_in t selected.parts u.a selected.selected) in
    let tree = tree_is bytes image q.counted.harts conf found holds paced.harts are in
    record {
      metrics = k.0;
      under = u.a;
      selected = selected;
      foci = f.a;
      are = f.first;
      within = foci_within image t tree u.a inside q.each q f.a f.first;
      is = ok_is texts (output (asked_text q n.a f.a)) f.next ∙ ap (λ (names : List (List ℕ)). output (asked_text q names f.a)) k.1;
    }

-- and so what is due
pub asked_due : (q : AskRequest) (image : Image) (found : Found) (texts : Texts) → IsAskedAt q image found texts → IsAsk q image found (Ok texts)
asked_due q image found texts a =
    let named : Ok q.metrics ≡ known found.checked.metrics q.metrics =
    sym (ap (λ (b : Bool). cond b (Ok q.metrics) (Err (BadConf (fault_at 0 0 UnknownName)))) a.metrics) in
    (Ok q.metrics, named, (Ok a.under, (Some a.under, a.selected, refl), (Ok a.foci, a.are, ap (λ (t : Texts). Ok t) a.is)))
