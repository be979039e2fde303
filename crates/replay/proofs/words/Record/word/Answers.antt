-- `replay::words::Record::word`: byte k of the eight from place 8 i on is byte 8 i + k of the record, and 0 where the record ends before. Assumes nothing.
use Rattle.std.proofs.Common.{ℕ, suc, zero, ◌≡◌, ◌+◌, ◌*◌, ◌/◌, ◌≤◌, ◌<◌, List, [], ◌∷◌, length, get_or, drop, replicate, ap, arith, ◌∙◌, length-drop}
use Rattle.std.proofs.lemmas.List.{get_or-take, get_or-drop, get_or-replicate}
use Rattle.std.specs.Int.{w64, from_le_bytes}
use Rattle.std.specs.Option.{unwrap_or}
use Rattle.std.specs.Simd.{first_chunks}
use Rattle.replay.specs.Words.{word_of}
use Rattle.replay.proofs.words.Record.word.Goals as goal

-- byte k of word i, where d stands for each word past the n of the record
byte_of_word : (n i k : ℕ) (b d : List ℕ) → length b ≤ n * 8 → k < 8 → get_or d k 0 ≡ 0
    → get_or (get_or (first_chunks 8 n b) i d) k 0 ≡ get_or b (i * 8 + k) 0
byte_of_word zero i k [] d fits below none = none
byte_of_word zero i k (_ ∷ _) d fits below none = elim fits [ ]
byte_of_word (suc n) zero k b d fits below none =
    let here : k ≡ 0 * 8 + k = omega arith in get_or-take 8 b k 0 below ∙ ap (λ (j : ℕ). get_or b j 0) here
byte_of_word (suc n) (suc i) k b d fits below none =
    byte_of_word n i k (drop 8 b) d (omega (arith, length-drop 8 b)) below none ∙ get_or-drop 8 b (i * 8 + k) 0
    ∙ ap (λ (j : ℕ). get_or b j 0) (omega arith)

-- eight bytes that are the record's from place 8 i on make its word i
word_value : (b w : List ℕ) (i : ℕ) → ((k : ℕ) → k < 8 → get_or w k 0 ≡ get_or b (i * 8 + k) 0) → from_le_bytes w64 w ≡ word_of b i
word_value b w i at = grind (arith, at)

pub returns : goal.returns
returns c =
    let b : List ℕ = c.args.self.now.bytes in
    let i : ℕ = c.args.i in
    let none : List ℕ = replicate 8 0 in
    let size : length b ≡ 144 = omega arith in
    let words : c.as_chunks.result.0.now ≡ first_chunks 8 18 b = c.as_chunks.ensures.front ∙ ap (λ (n : ℕ). first_chunks 8 (n / 8) b) size in
    let read : c.unwrap_or.result ≡ get_or (first_chunks 8 18 b) i none =
    c.unwrap_or.ensures ∙ ap (λ (o : _). unwrap_or o none) c.copied.ensures ∙ c.get.ensures.lookup.4 (omega arith) none
    ∙ ap (λ (ws : List (List ℕ)). get_or ws i none) words in
    let bytes : (k : ℕ) → k < 8 → get_or c.unwrap_or.result k 0 ≡ get_or b (i * 8 + k) 0 =
    λ k below. ap (λ (w : List ℕ). get_or w k 0) read ∙ byte_of_word 18 i k b none (omega arith) below (get_or-replicate 8 k 0 0 below) in
    c.from_le_bytes.ensures ∙ word_value b c.unwrap_or.result i bytes
