-- What a loop that merges two lists has done so far.
use Rattle.std.proofs.Common.{◌≡◌, ℕ, zero, suc, ◌+◌, ◌<◌, ◌≤◌, List, [], ◌∷◌, ◌++◌, length, take, drop, get_or, set, refl, ap, ◌∙◌, arith}
use lib.Lanes.{zip2, chunk, put_chunk}

-- the first words merged with those of the other list, and the rest as they were
abbrev pub front_merged : (ℕ → ℕ → ℕ) → ℕ → List ℕ → List ℕ → List ℕ
front_merged f zero to from = to
front_merged f (suc n) [] from = []
front_merged f (suc n) (x ∷ to) [] = x ∷ to
front_merged f (suc n) (x ∷ to) (y ∷ from) = f x y ∷ front_merged f n to from

-- the whole list is merged
pub front_merged_whole : (f : ℕ → ℕ → ℕ) (n : ℕ) (to from : List ℕ) → length to ≤ n → length to ≡ length from → front_merged f n to from ≡ zip2 f to from
front_merged_whole f zero [] from le same = refl
front_merged_whole f zero (x ∷ to) from le same = absurd (omega arith)
front_merged_whole f (suc n) [] from le same = refl
front_merged_whole f (suc n) (x ∷ to) [] le same = absurd (omega arith)
front_merged_whole f (suc n) (x ∷ to) (y ∷ from) le same = ap (λ rest. f x y ∷ rest) (front_merged_whole f n to from (omega arith) (omega arith))

-- one word more
pub front_merged_word : (f : ℕ → ℕ → ℕ) (i m : ℕ) (to from : List ℕ) → m ≡ i + 1 → i < length to → length to ≡ length from → set (front_merged f i to from) i (f (get_or (front_merged f i to from) i 0) (get_or from i 0)) ≡ front_merged f m to from
front_merged_word f i zero to from is lt same = absurd (omega arith)
front_merged_word f i (suc m) [] from is lt same = absurd (omega arith)
front_merged_word f i (suc m) (x ∷ to) [] is lt same = absurd (omega arith)
front_merged_word f zero (suc m) (x ∷ to) (y ∷ from) is lt same = let e : m ≡ 0 = omega arith in rw e refl
front_merged_word f (suc i) (suc m) (x ∷ to) (y ∷ from) is lt same = ap (λ rest. f x y ∷ rest) (front_merged_word f i m to from (omega arith) (omega arith) (omega arith))

-- as many words from the first on as a vector has
pub front_merged_first : (f : ℕ → ℕ → ℕ) (n : ℕ) (to from : List ℕ) → n ≤ length to → length to ≡ length from → put_chunk 0 to (zip2 f (take n to) (take n from)) ≡ front_merged f n to from
front_merged_first f zero [] from le same = refl
front_merged_first f zero (x ∷ to) from le same = refl
front_merged_first f (suc n) [] from le same = absurd (omega arith)
front_merged_first f (suc n) (x ∷ to) [] le same = absurd (omega arith)
front_merged_first f (suc n) (x ∷ to) (y ∷ from) le same = ap (λ rest. f x y ∷ rest) (front_merged_first f n to from (omega arith) (omega arith))

-- one vector more, where the list is written out
vector_more : (f : ℕ → ℕ → ℕ) (n i m : ℕ) (to from : List ℕ) → m ≡ i + n → m ≤ length to → length to ≡ length from → put_chunk i (front_merged f i to from) (zip2 f (chunk i n (front_merged f i to from)) (chunk i n from)) ≡ front_merged f m to from
vector_more f n zero m to from is le same = let e : m ≡ n = omega arith in rw e (front_merged_first f n to from (omega arith) same)
vector_more f n (suc i) zero to from is le same = absurd (omega arith)
vector_more f n (suc i) (suc m) [] from is le same = absurd (omega arith)
vector_more f n (suc i) (suc m) (x ∷ to) [] is le same = absurd (omega arith)
vector_more f n (suc i) (suc m) (x ∷ to) (y ∷ from) is le same = ap (λ rest. f x y ∷ rest) (vector_more f n i m to from (omega arith) (omega arith) (omega arith))

-- one vector more, where the list is known to be so
pub front_merged_vector : (f : ℕ → ℕ → ℕ) (n i m : ℕ) (to from front : List ℕ) → front ≡ front_merged f i to from → m ≡ i + n → m ≤ length to → length to ≡ length from → put_chunk i front (zip2 f (chunk i n front) (chunk i n from)) ≡ front_merged f m to from
front_merged_vector f n i m to from front begun is le same = ap (λ xs. put_chunk i xs (zip2 f (chunk i n xs) (chunk i n from))) begun ∙ vector_more f n i m to from is le same

-- two lists merged in two parts
pub zip2_parts : (f : ℕ → ℕ → ℕ) (n : ℕ) (to from : List ℕ) → length to ≡ length from → zip2 f (take n to) (take n from) ++ zip2 f (drop n to) (drop n from) ≡ zip2 f to from
zip2_parts f zero to from same = refl
zip2_parts f (suc n) [] from same = refl
zip2_parts f (suc n) (x ∷ to) [] same = absurd (omega arith)
zip2_parts f (suc n) (x ∷ to) (y ∷ from) same = ap (λ rest. f x y ∷ rest) (zip2_parts f n to from (omega arith))
