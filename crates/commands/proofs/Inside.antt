-- Each point lies at a word of the text.
use Rattle.std.proofs.Common.{◌≡◌, ℕ, zero, suc, ◌+◌, ◌-◌, ◌*◌, ◌/◌, ◌%◌, ◌<◌, ◌≤◌, List, [], ◌∷◌, length, map, take, drop, Bool, true, false, cond, Some, refl, sym, arith}
use Rattle.std.specs.List.{filter, range_with_len, AllByRecursion}
use Rattle.std.proofs.lemmas.List.Elements.{recursion_from_All}
use Rattle.code_points.proofs.Words.{word_there}
use Rattle.code_points.specs.Points.{point_at, has_kind, points_in, points_from, points_of}
use Rattle.code_points.specs.Procedures.{AreProcsOf, IsProcOf}
use Rattle.machine.specs.Cores.{In}
use Rattle.pn_types.proofs.ImageLemmas.{text_range}
use Rattle.pn_types.specs.Images.{IsImage, text_of}
use Rattle.pn_types.specs.declared.code.Point.{Point}
use Rattle.pn_types.specs.declared.code.Proc.{Proc}
use Rattle.pn_types.specs.declared.image.Image.{Image}
use Rattle.rv_mem.specs.Start.{program_of}
use Rattle.rv_word.specs.Names.{word_at}
use Rattle.rv_word.specs.Plain.{Words, program_word}
use Rattle.commands.proofs.Each.{of_all, all_both}

-- the text has a word at the address
abbrev HasWord : Words → ℕ → Type 0
HasWord t at = (word : ℕ) × (program_word t at ≡ Some word)

-- a point that is kept or not, before others
one : (P : Point → Type 0) (b : Bool) (q : Point) (qs : List Point) → P q → AllByRecursion P qs → AllByRecursion P (cond b (q ∷ qs) qs)
one P true q qs h g = (h, g)
one P false q qs h g = g

-- the words of one procedure
module _ (P : Point → Type 0) (test : Point → Bool) (f : ℕ → Point) (start : ℕ) where
  words : (k m : ℕ) → ((j : ℕ) → j < k + m → P (f (start + 4 * j))) → AllByRecursion P (filter test (map f (map (λ j. start + 4 * j) (range_with_len k m))))
  words k zero h = tt
  words k (suc m) h =
      one P (test (f (start + 4 * k))) (f (start + 4 * k)) (filter test (map f (map (λ j. start + 4 * j) (range_with_len (k + 1) m))))
      (h k (omega arith)) (words (k + 1) m (λ j l. h j (omega arith)))

module _ (image : Image) (is : IsImage image) where
  abbrev HasPoint : Point → Type 0
  HasPoint p = HasWord (program_of image) p.at

  has_word : (pc : ℕ) → image.text_at ≤ pc → (pc - image.text_at) % 4 ≡ 0 → (pc - image.text_at) / 4 < length (text_of image) / 4 → HasWord (program_of image) pc
  has_word pc l e h =
      let bytes = text_of image in
      let word = word_at (take (length bytes - (pc - image.text_at)) (drop (pc - image.text_at) bytes)) in
      (word, sym (word_there image.text_at pc word bytes l e h refl))

  -- word number j of a procedure
  in_proc : (p : Proc) (j : ℕ) → IsProcOf image p → j < p.len / 4 → HasWord (program_of image) (p.start + 4 * j)
  in_proc p j h l =
      let long = (text_range image is).length in
      let start = is.start in
      let begins = h.start in
      let behind = h.behind in
      let before = h.before in
      has_word (p.start + 4 * j) (omega arith) (omega arith) (omega arith)

  all_points : (n : ℕ) (ps : List Proc) → AllByRecursion (IsProcOf image) ps → AllByRecursion HasPoint (points_from (program_of image) n ps)
  all_points n [] h = tt
  all_points n (p ∷ ps) h =
      all_both HasPoint (points_in (program_of image) n p) (points_from (program_of image) (n + 1) ps)
      (words HasPoint has_kind (point_at (program_of image) n p) p.start 0 (p.len / 4) (λ j l. in_proc p j h.0 (omega arith))) (all_points (n + 1) ps h.1)

  pub inside : (procs : List Proc) → AreProcsOf image procs → (p : Point) → In p (points_of image procs) → HasWord (program_of image) p.at
  inside procs h p i =
      of_all HasPoint (points_of image procs) p (all_points 0 procs (recursion_from_All (IsProcOf image) procs h.each)) i
