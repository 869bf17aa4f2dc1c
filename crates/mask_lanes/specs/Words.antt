-- Lists of words, each word a set of bits.
use Rattle.std.specs.Prelude.{ℕ, Bool, ◌==◌, List, bit_and, bit_or, count_by}
use Rattle.std.specs.Simd.Lanes.{zip2}

-- place by place, the bits of either word
abbrev pub pointwise_or : List ℕ → List ℕ → List ℕ
pointwise_or to from = zip2 bit_or to from

-- place by place, the bits that both words have
abbrev pub pointwise_and : List ℕ → List ℕ → List ℕ
pointwise_and to from = zip2 bit_and to from

-- whether a word has every bit of the mask
abbrev pub contains_all : ℕ → ℕ → Bool
contains_all mask word = bit_and word mask == mask

-- how many words have every bit of the mask
abbrev pub number_with : ℕ → List ℕ → ℕ
number_with mask words = count_by (contains_all mask) words
