-- Counts that are asked of yards, and one turn more of a sum of them. Assumes nothing.
use Rattle.std.proofs.Common.{◌≡◌, ℕ, ◌+◌, ◌*◌, sym, ap, ◌∙◌, ⊎_elim, add-mul, zero-mul, arith}
use Rattle.std.proofs.lemmas.Bool.{cases_eq}
use Rattle.graph.specs.Forests.{WordsNeeded}
use Rattle.graph.specs.Groups.{GroupCount}
use Rattle.graph.proofs.Counting.{count_same, count_le}
use Rattle.yard.specs.declared.Yard.{Yard}
use Rattle.yard.specs.Meaning.{yard_tracks}
use Rattle.yard_c.specs.Told.{AsksCount, Timed}

module _ (Counts : ℕ → Type 0) (same : (m n : ℕ) → Counts m → Counts n → m ≡ n) where
  sum_is : (turn sum n : ℕ) → Timed Counts turn sum → Counts n → sum ≡ turn * n
  sum_is turn sum n t c =
      ⊎_elim
      (λ e. t.none e ∙ sym (ap (λ k. k * n) e ∙ zero-mul n))
      (λ e. let h = t.some e in h.2 ∙ ap (λ m. turn * m) (same h.0 n h.1 c))
      (cases_eq turn 0)

  pub timed_more : (turn sum n : ℕ) → Timed Counts turn sum → Counts n → Timed Counts (turn + 1) (sum + n)
  timed_more turn sum n t c =
      let was = sum_is turn sum n t c in
      let more = add-mul turn 1 n in
      record { some = λ _. (n, c, omega (arith, was, more)); none = λ e. absurd (omega (arith, e)) }

module _ (Answers : Yard → ℕ → Type 0) where
  pub asks_words : ((y : Yard) (n : ℕ) → Answers y n → WordsNeeded (yard_tracks y) n) → AsksCount Answers
  asks_words told = record {
    few = λ y n a. let most = count_le (told y n a) in let few = y.few in omega arith;
    one = λ y m n a b. count_same (told y m a) (told y n b);
  }

  pub asks_groups : ((y : Yard) (n : ℕ) → Answers y n → GroupCount (yard_tracks y) n) → AsksCount Answers
  asks_groups told = record {
    few = λ y n a. let most = count_le (told y n a) in omega arith;
    one = λ y m n a b. count_same (told y m a) (told y n b);
  }
