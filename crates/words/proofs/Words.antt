-- Words in bytes: what is written is read back.
use Prim.Native.Nat.{ℕ, zero, suc, ◌+◌, ◌*◌, ◌/◌, ◌%◌, ◌^◌, ◌≤◌, ◌<◌}
use native.Mathlib.Nat.{add-zero, add_assoc, div-div-eq-div-mul, mod-eq_of_lt}
use native.Mathlib.Omega.{arith}
use mathlib.Core.Path.{◌≡◌, refl, sym, ap, ◌∙◌}
use mathlib.Core.List.{List, [], ◌∷◌, ◌++◌, append_assoc}
use lib.ListN.{length, get_or, take, drop}
use lib.Seq.{sets, get_or-take, get_or-drop}
use Rattle.reading.specs.Words.{word_at, word_bytes, bytes_of}
use Rattle.words.proofs.Runs.{sets-append, get_d-sets-below, get_d-sets-above, get_d-sets-in}

-- ---- lists of words as bytes

pub bytes_of-append : (vs ws : List ℕ) → bytes_of (vs ++ ws) ≡ bytes_of vs ++ bytes_of ws
unfolding bytes_of
bytes_of-append [] ws = refl
bytes_of-append (v ∷ vs) ws =
    ap (λ (l : List ℕ). word_bytes v ++ l) (bytes_of-append vs ws) ∙ sym (append_assoc (word_bytes v) (bytes_of vs) (bytes_of ws))

pub bytes_of-length : (ws : List ℕ) → length (bytes_of ws) ≡ 4 * length ws
unfolding bytes_of word_bytes
bytes_of-length [] = refl
bytes_of-length (w ∷ ws) = omega (arith, bytes_of-length ws)

-- words stored behind words
pub sets-words : (l : List ℕ) (i k : ℕ) (vs ws : List ℕ) → k ≡ i + 4 * length vs →
    sets (sets l i (bytes_of vs)) k (bytes_of ws) ≡ sets l i (bytes_of (vs ++ ws))
sets-words l i k vs ws e =
    ap (λ (n : ℕ). sets (sets l i (bytes_of vs)) n (bytes_of ws)) (e ∙ ap (λ (n : ℕ). i + n) (sym (bytes_of-length vs)))
    ∙ sets-append l i (bytes_of vs) (bytes_of ws)
    ∙ ap (λ (b : List ℕ). sets l i b) (sym (bytes_of-append vs ws))

-- ---- a word and its bytes

-- a word of 32 bits is its four digits
digits : (w : ℕ) → w < 2 ^ 32 → w % 2 ^ 8 + 2 ^ 8 * (w / 2 ^ 8 % 2 ^ 8) + 2 ^ 16 * (w / 2 ^ 16 % 2 ^ 8) + 2 ^ 24 * (w / 2 ^ 24 % 2 ^ 8) ≡ w
digits w h =
    let e1 : w / 256 / 256 ≡ w / 65536 = div-div-eq-div-mul w 256 256 in
    let e2 : w / 65536 / 256 ≡ w / 16777216 = div-div-eq-div-mul w 65536 256 in
    let m : w / 16777216 % 256 ≡ w / 16777216 = mod-eq_of_lt (omega arith) in
    omega arith

-- a word of bytes is below 2 ^ 32
pub word_fits : (l : List ℕ) (at : ℕ) → ((i : ℕ) → get_or l i 0 < 2 ^ 8) → word_at l at < 2 ^ 32
unfolding word_at
word_fits l at b = omega (arith, b at, b (at + 1), b (at + 2), b (at + 3))

-- a word of a part from n on
pub word-drop : (n : ℕ) (l : List ℕ) (at : ℕ) → word_at (drop n l) at ≡ word_at l (n + at)
unfolding word_at
word-drop n l at =
    rw (get_or-drop n l at 0, get_or-drop n l (at + 1) 0, get_or-drop n l (at + 2) 0, get_or-drop n l (at + 3) 0, add_assoc n at 1, add_assoc n at 2, add_assoc n at 3)

-- a word that stands whole in the first n bytes
pub word-take : (n : ℕ) (l : List ℕ) (at : ℕ) → at + 4 ≤ n → word_at (take n l) at ≡ word_at l at
unfolding word_at
word-take n l at h =
    let byte : (j : ℕ) → j < n → get_or (take n l) j 0 ≡ get_or l j 0 = λ j k. get_or-take n l j 0 k in
    rw (byte at (omega arith), byte (at + 1) (omega arith), byte (at + 2) (omega arith), byte (at + 3) (omega arith))

-- ---- words stored in place

-- what was stored is read back
pub read_back : (l : List ℕ) (at w : ℕ) → at + 4 ≤ length l → w < 2 ^ 32 → word_at (sets l at (word_bytes w)) at ≡ w
unfolding word_at word_bytes
read_back l at w h f =
    let byte : (j : ℕ) → j < 4 → get_or (sets l at (word_bytes w)) (at + j) 0 ≡ get_or (word_bytes w) j 0 = λ j k. get_d-sets-in (word_bytes w) l at j k h in
    let lowest : get_or (sets l at (word_bytes w)) at 0 ≡ w % 2 ^ 8 = rw add-zero at (byte 0 (omega arith)) in
    rw (lowest, byte 1 (omega arith), byte 2 (omega arith), byte 3 (omega arith)) (digits w f)

-- a word outside a run stays
pub word_below : (vs l : List ℕ) (i at : ℕ) → at + 4 ≤ i → word_at (sets l i vs) at ≡ word_at l at
unfolding word_at
word_below vs l i at h =
    let byte : (j : ℕ) → j < i → get_or (sets l i vs) j 0 ≡ get_or l j 0 = λ j k. get_d-sets-below vs l i j k in
    rw (byte at (omega arith), byte (at + 1) (omega arith), byte (at + 2) (omega arith), byte (at + 3) (omega arith))

pub word-above : (vs l : List ℕ) (i at : ℕ) → i + length vs ≤ at → word_at (sets l i vs) at ≡ word_at l at
unfolding word_at
word-above vs l i at h =
    let byte : (j : ℕ) → i + length vs ≤ j → get_or (sets l i vs) j 0 ≡ get_or l j 0 = λ j k. get_d-sets-above vs l i j k in
    rw (byte at (omega arith), byte (at + 1) (omega arith), byte (at + 2) (omega arith), byte (at + 3) (omega arith))

-- ---- words of encoded bytes

word-skip : (b0 b1 b2 b3 : ℕ) (l : List ℕ) (at : ℕ) → word_at (b0 ∷ b1 ∷ b2 ∷ b3 ∷ l) (at + 4) ≡ word_at l at
unfolding word_at
word-skip b0 b1 b2 b3 l at =
    let e0 : at + 4 ≡ suc (suc (suc (suc at))) = omega arith in
    let e1 : at + 4 + 1 ≡ suc (suc (suc (suc (at + 1)))) = omega arith in
    let e2 : at + 4 + 2 ≡ suc (suc (suc (suc (at + 2)))) = omega arith in
    let e3 : at + 4 + 3 ≡ suc (suc (suc (suc (at + 3)))) = omega arith in
    rw (e1, e2, e3, e0)

pub first_word : (w : ℕ) (l : List ℕ) → w < 2 ^ 32 → word_at (word_bytes w ++ l) 0 ≡ w
unfolding word_at word_bytes
first_word w l h = digits w h

-- word i of the bytes of ws is ws's element i, whatever stands behind
pub word-of-bytes : (ws rest : List ℕ) (i : ℕ) → i < length ws → get_or ws i 0 < 2 ^ 32 → word_at (bytes_of ws ++ rest) (4 * i) ≡ get_or ws i 0
unfolding bytes_of word_bytes
word-of-bytes [] rest i h f = omega arith
word-of-bytes (w ∷ ws) rest zero h f = first_word w (bytes_of ws ++ rest) f
word-of-bytes (w ∷ ws) rest (suc i) h f =
    let e : 4 * suc i ≡ 4 * i + 4 = omega arith in
    ap (λ (k : ℕ). word_at (bytes_of (w ∷ ws) ++ rest) k) e
    ∙ word-skip (w % 2 ^ 8) (w / 2 ^ 8 % 2 ^ 8) (w / 2 ^ 16 % 2 ^ 8) (w / 2 ^ 24 % 2 ^ 8) (bytes_of ws ++ rest) (4 * i)
    ∙ word-of-bytes ws rest i (omega arith) f
