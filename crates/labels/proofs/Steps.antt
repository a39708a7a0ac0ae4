-- Labels that are drawn into a list, and the tracks with their labels, line by line. Assumes nothing.
use Rattle.std.proofs.Common.{◌≡◌, Bool, true, codes, decimal, ℕ, ◌+◌, ◌<◌, List, ◌∷◌, [], ◌++◌, length, get_or, Bor, sym, ap, ◌∙◌, inl, inr, add-one, zero-add, arith}
use Rattle.std.proofs.iter.Yields.{fronts}
use Rattle.std.proofs.lemmas.Iterator.{YieldsList, zips, YieldsList-from_slice, YieldsList-from_zip}
use Rattle.std.proofs.lemmas.Iterator.Consumers.{YieldsList-from_enumerate}
use Rattle.std.proofs.lemmas.List.{append_assoc, get_or_default}
use Rattle.std.specs.Iterator.Adapters.{enumerate_source, enumerate_count, enumerate_steps, zip_first, zip_second}
use Rattle.std.specs.Slice.Iter.{iter_rest}
use Rattle.std.specs.declared.iter.Enumerate.{Enumerate}
use Rattle.std.specs.declared.iter.Zip.{Zip}
use Rattle.std.specs.declared.slice.Iter.{Iter}
use Rattle.std.proofs.lemmas.List.FromFn.{length-enumerate_from, get_or-enumerate_from}
use Rattle.std.proofs.lemmas.Slice.Zip.{length-zip, get_or-zip}
use Rattle.std.specs.List.{enumerate_from, zip}
use Rattle.network.specs.declared.track.Track.{Track}
use Rattle.label.specs.Kinds.{xors, sums, pairs}
use Rattle.label.specs.declared.xor.Xor.{Xor}
use Rattle.label.specs.declared.sum.Sum32.{Sum32}
use Rattle.label.specs.declared.both.Both.{Both}
use Rattle.graph.specs.Forests.{WordsNeeded}
use Rattle.graph.specs.Yards.{none, track}
use Rattle.graph.proofs.Counting.{count_same}
use Rattle.circulation.specs.Labels.{label}
use Rattle.labelling.specs.Told.{LabelRefusal}
use Rattle.labels.specs.Draws.{OneEach}
use Rattle.labels.specs.Rows.{header, row, rows, balance_words, summary_line}

-- of a list as long as the tracks only the words can be too few
pub too_few : (y : List Track) (long given number : ℕ) → long ≡ length y → LabelRefusal y long given number → (number ≡ 8) × ((n : ℕ) → WordsNeeded y n → given < n)
too_few y long given number e (inl h) = absurd (h.0 e)
too_few y long given number e (inr h) = (h.2, λ n w. let same = count_same w h.1.1 in let less = h.1.2 in omega arith)

-- a track with its number and its labels
abbrev pub Labelled : Type 0
Labelled = ℕ × (Track × ((Xor × Sum32) × Both Xor Sum32))

-- one as the loop over them gives it
abbrev pub Given : Type 0
Given = ℕ × (Bor Track × ((Bor Xor × Bor Sum32) × Bor (Both Xor Sum32)))

abbrev pub Pairs : Type 0
Pairs = Enumerate (Zip (Iter Track) (Zip (Zip (Iter Xor) (Iter Sum32)) (Iter (Both Xor Sum32))))

abbrev pub shown : Given → Labelled
shown p = (p.0, (p.1.0.now, ((p.1.1.0.0.now, p.1.1.0.1.now), p.1.1.1.now)))

module _ (ts : List Track) (xs : List Xor) (ss : List Sum32) (bs : List (Both Xor Sum32)) where
  -- all of them
  abbrev pub labelled : List Labelled
  labelled = enumerate_from 0 (zip ts (zip (zip xs ss) bs))

  -- a loop that begins here goes over all of them
  abbrev pub AllLabelled : Pairs → Type 0
  AllLabelled s = YieldsList (enumerate_steps (zips fronts (zips (zips fronts fronts) fronts))) shown s labelled

  pub all_labelled : (s : Pairs)
      → enumerate_count s ≡ 0
      → iter_rest (zip_first (enumerate_source s)) ≡ ts
      → iter_rest (zip_first (zip_first (zip_second (enumerate_source s)))) ≡ xs
      → iter_rest (zip_second (zip_first (zip_second (enumerate_source s)))) ≡ ss
      → iter_rest (zip_second (zip_second (enumerate_source s))) ≡ bs
      → AllLabelled s
  all_labelled s count t x s' b =
      YieldsList-from_enumerate (YieldsList-from_zip (YieldsList-from_slice ts t) (YieldsList-from_zip (YieldsList-from_zip (YieldsList-from_slice xs x) (YieldsList-from_slice ss s')) (YieldsList-from_slice bs b))) count

  module _ (each : OneEach ts xs ss bs) where
    pub length-labelled : length labelled ≡ length ts
    length-labelled =
        let x = each.x in
        let s = each.s in
        let b = each.b in
        omega (arith, length-enumerate_from 0 (zip ts (zip (zip xs ss) bs)), length-zip ts (zip (zip xs ss) bs), length-zip (zip xs ss) bs, length-zip xs ss)

    -- the one with the number n
    pub labelled_at : (n : ℕ) (p : Labelled) → n < length labelled → p ≡ get_or labelled n p → p ≡ (n, (track ts n, ((label xors xs n, label sums ss n), label (pairs xors sums) bs n)))
    labelled_at n p within e =
        let x = each.x in
        let s = each.s in
        let b = each.b in
        let long = length-labelled in
        let pair = zip xs ss in
        let all = zip pair bs in
        let few : n < length ts = omega arith in
        let zero : Labelled = (0, (none, ((xors.zero, sums.zero), (pairs xors sums).zero))) in
        let in_xs : n < length xs = omega arith in
        let in_ss : n < length ss = omega arith in
        let in_bs : n < length bs = omega arith in
        let in_pair : n < length pair = omega (arith, length-zip xs ss) in
        let in_all : n < length all = omega (arith, length-zip pair bs) in
        let in_zip : n < length (zip ts all) = omega (arith, length-zip ts all) in
        e
        ∙ get_or_default labelled n p zero within
        ∙ get_or-enumerate_from 0 (zip ts all) n zero in_zip
        ∙ ap (λ k. (k, get_or (zip ts all) n zero.1)) (zero-add n)
        ∙ ap (λ q. (n, q)) (get_or-zip ts all n zero.1 few in_all)
        ∙ ap (λ q. (n, (track ts n, q))) (get_or-zip pair bs n zero.1.1 in_pair in_bs)
        ∙ ap (λ q. (n, (track ts n, (q, label (pairs xors sums) bs n)))) (get_or-zip xs ss n zero.1.1.0 in_xs in_ss)

    -- one line more
    pub rows_more : {n : ℕ} {text new : List ℕ} (p : Labelled) → text ≡ header ++ rows ts xs ss bs n → new ≡ text ++ row p.0 p.1.0 p.1.1.0.0 p.1.1.0.1 p.1.1.1 → p ≡ (n, (track ts n, ((label xors xs n, label sums ss n), label (pairs xors sums) bs n))) → new ≡ header ++ rows ts xs ss bs (n + 1)
    rows_more {n} {text} {new} p so_far e is =
        e
        ∙ ap (λ t. t ++ row p.0 p.1.0 p.1.1.0.0 p.1.1.0.1 p.1.1.1) so_far
        ∙ ap (λ (q : Labelled). (header ++ rows ts xs ss bs n) ++ row q.0 q.1.0 q.1.1.0.0 q.1.1.0.1 q.1.1.1) is
        ∙ append_assoc header (rows ts xs ss bs n) (row n (track ts n) (label xors xs n) (label sums ss n) (label (pairs xors sums) bs n))
        ∙ ap (λ k. header ++ rows ts xs ss bs k) (sym (add-one n))

-- the last line, as it is printed of so many tracks with these words for whether the labels balance
abbrev pub last_line : ℕ → ℕ → ℕ → List ℕ → List ℕ
last_line tracks needed given words =
    codes "drew labels: tracks " ++ (decimal tracks
    ++ (codes ", words needed " ++ (decimal needed
    ++ (codes ", words given " ++ (decimal given
    ++ (codes ", " ++ (words ++ (13 ∷ 10 ∷ []))))))))

-- the lines of all tracks, and the last line where the labels balance
pub all_written : (ts us vs : List Track) (xs : List Xor) (ss : List Sum32) (bs : List (Both Xor Sum32)) (needed given : ℕ) {text new words : List ℕ} {balanced : Bool} → us ≡ ts → vs ≡ ts → words ≡ balance_words balanced → balanced ≡ true → text ≡ header ++ rows us xs ss bs (length us) → new ≡ text ++ last_line (length vs) needed given words → new ≡ header ++ (rows ts xs ss bs (length ts) ++ summary_line (length ts) needed given true)
all_written ts us vs xs ss bs needed given {text} {new} {words} {balanced} first second said holds so_far e =
    e
    ∙ ap (λ t. t ++ last_line (length vs) needed given words) so_far
    ∙ ap (λ w. (header ++ rows us xs ss bs (length us)) ++ last_line (length vs) needed given w) (said ∙ ap balance_words holds)
    ∙ ap (λ (w : List Track). (header ++ rows us xs ss bs (length us)) ++ summary_line (length w) needed given true) second
    ∙ ap (λ (u : List Track). (header ++ rows u xs ss bs (length u)) ++ summary_line (length ts) needed given true) first
    ∙ append_assoc header (rows ts xs ss bs (length ts)) (summary_line (length ts) needed given true)
