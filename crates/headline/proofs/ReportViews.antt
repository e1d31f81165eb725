-- What is due for `show` and `diff` tells what the headline says.
use Rattle.std.proofs.Common.{◌≡◌, ◌∙◌, ℕ, Bool, true, false, cond, List, Result, Ok, Err, Some, ap, inl, inr, refl}
use Rattle.advice.specs.declared.fault.ReportFault.{ReportFault}
use Rattle.advice.specs.declared.fault.ReportFault.TheVariants as fault
use Rattle.command_words.specs.Requests.{DiffRequest, ShowRequest, diff, show}
use Rattle.commands.specs.Advising.{IsReportContent}
use Rattle.commands.specs.Differing.{IsComparedFile, IsDiffDue, begins_profile, compared_file, diff_of, compared_profile, compared_report}
use Rattle.commands.specs.FileReadings.{FileReading, IsContent}
use Rattle.commands.specs.Output.{output}
use Rattle.commands.specs.Showing.{IsShowDue, view_of, report_view_texts}
use Rattle.commands.specs.declared.differing.ComparedFile.{ComparedFile}
use Rattle.commands.specs.declared.texts.Texts.{Texts}
use Rattle.profile_reader.specs.Laws.{ProfileIsSpelled}
use Rattle.profile_reader.specs.Pairs.{profile_parts}
use Rattle.profile_reader.specs.Reading.{profile_in}
use Rattle.profile_reader.specs.declared.profile.ReadProfile.{ReadProfile}
use Rattle.refusals.specs.Refusals.{Step, Then}
use Rattle.refusals.specs.declared.fault.Fault.{Fault}
use Rattle.refusals.specs.declared.fault.Fault.TheVariants.{BadNewReport, BadReport}
use Rattle.report_reader.specs.Laws.{ReportIsSpelled}
use Rattle.report_reader.specs.Reading.{report_in}
use Rattle.report_reader.specs.declared.whole_report.Report.{Report}
use Rattle.headline.specs.Headline.{IsComparedText, Tells}
use Rattle.headline.proofs.Steps.{came, content_of, ok_is}

view_is : (q : ShowRequest) (texts : Texts) (x : Result Report ReportFault) → Ok texts ≡ report_view_texts q x → (r : Report) × (x ≡ Ok r) × (texts ≡ output (view_of q r))
view_is q texts (Ok r) e = (r, refl, ok_is texts (output (view_of q r)) e)
view_is q texts (Err (fault.BadReport place)) e = absurd (cc)

pub show_tells : ReportIsSpelled → (sees : FileReading) (texts : Texts) (q : ShowRequest) → IsShowDue q sees (Ok texts) → Tells (Some (show q)) sees texts
show_tells spelled sees texts q due =
    let r = came (IsReportContent sees q.report) (λ bytes t. t ≡ report_view_texts q (report_in bytes)) texts due in
    let c = content_of sees 33554432 _ q.report r.a r.first in
    let v = view_is q texts (report_in r.a) r.next in
    (r.a, c.told, v.0, v.1, spelled r.a v.0 v.1, v.2)

-- ---- diff

report_compared : ReportIsSpelled → (bad : ℕ → Fault) (bytes : List ℕ) (c : ComparedFile) (x : Result Report ReportFault) → report_in bytes ≡ x → Ok c ≡ compared_report bad x → IsComparedText bytes c
report_compared spelled bad bytes c (Ok r) is e = inl (r, is, spelled bytes r is, ok_is c (record { is_profile = false; parts = r.parts }) e)
report_compared spelled bad bytes c (Err (fault.BadReport place)) is e = absurd (cc)

profile_compared : ProfileIsSpelled → (bad : ℕ → Fault) (bytes : List ℕ) (c : ComparedFile) (x : Result ReadProfile ReportFault) → profile_in bytes ≡ x → Ok c ≡ compared_profile bad x → IsComparedText bytes c
profile_compared spelled bad bytes c (Ok p) is e = inr (p, is, spelled bytes p is, ok_is c (record { is_profile = true; parts = profile_parts p }) e)
profile_compared spelled bad bytes c (Err (fault.BadReport place)) is e = absurd (cc)

compared_text : ReportIsSpelled → ProfileIsSpelled → (bad : ℕ → Fault) (bytes : List ℕ) (c : ComparedFile) (is : Bool) → begins_profile bytes ≡ is → Ok c ≡ compared_file bad bytes → IsComparedText bytes c
compared_text reports profiles bad bytes c true is e = profile_compared profiles bad bytes c (profile_in bytes) refl (e ∙ ap (λ (b : Bool). cond b (compared_profile bad (profile_in bytes)) (compared_report bad (report_in bytes))) is)
compared_text reports profiles bad bytes c false is e = report_compared reports bad bytes c (report_in bytes) refl (e ∙ ap (λ (b : Bool). cond b (compared_profile bad (profile_in bytes)) (compared_report bad (report_in bytes))) is)

-- a file has the text of what was read
record IsRead (sees : FileReading) (name : List ℕ) (c : ComparedFile) : Type 0 where
  bytes : List ℕ
  told : sees name (Ok bytes)
  text : IsComparedText bytes c

read : ReportIsSpelled → ProfileIsSpelled → (bad : ℕ → Fault) (sees : FileReading) (name : List ℕ) (c : ComparedFile) → IsComparedFile bad sees name (Ok c) → IsRead sees name c
read reports profiles bad sees name c step =
    let b = came (IsContent sees 33554432 (bad 33554432) name) (λ bytes compared. compared ≡ compared_file bad bytes) c step in
    let k = content_of sees 33554432 _ name b.a b.first in
    record { bytes = b.a; told = k.told; text = compared_text reports profiles bad b.a c (begins_profile b.a) refl b.next }

pub diff_tells : ReportIsSpelled → ProfileIsSpelled → (sees : FileReading) (texts : Texts) (q : DiffRequest) → IsDiffDue q sees (Ok texts) → Tells (Some (diff q)) sees texts
diff_tells reports profiles sees texts q due =
    let ended : ComparedFile → ComparedFile → Step Texts = λ old new t. t ≡ diff_of old new in
    let o = came (IsComparedFile BadReport sees q.old) (λ old. Then (IsComparedFile BadNewReport sees q.new) (ended old)) texts due in
    let n = came (IsComparedFile BadNewReport sees q.new) (ended o.a) texts o.next in
    let old = read reports profiles BadReport sees q.old o.a o.first in
    let new = read reports profiles BadNewReport sees q.new n.a n.first in
    (old.bytes, new.bytes, old.told, new.told, o.a, n.a, old.text, new.text, n.next)
