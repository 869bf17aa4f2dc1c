-- The words with every bit of a mask, in parts of a list.
use Rattle.std.proofs.Common.{◌≡◌, ℕ, ◌+◌, List, take, drop, cond, sym, ap, ◌∙◌}
use lib.Lanes.{chunk}
use Rattle.std.proofs.Math.Seq.{take-add}
use Rattle.std.proofs.lemmas.List.{take-append-drop}
use Rattle.std.proofs.lemmas.List.Sums.{sum_by-append}
use Rattle.mask_lanes.specs.Words.{contains_all, number_with}

-- one vector more
pub number_with_more : (mask n i m : ℕ) (words : List ℕ) → m ≡ i + n → number_with mask (take m words) ≡ number_with mask (take i words) + number_with mask (chunk i n words)
number_with_more mask n i m words is =
    ap (λ k. number_with mask (take k words)) is
    ∙ ap (number_with mask) (take-add i n words)
    ∙ sum_by-append (λ word. cond (contains_all mask word) 1 0) (take i words) (chunk i n words)

-- a list in two parts
pub number_with_parts : (mask n : ℕ) (words : List ℕ) → number_with mask (take n words) + number_with mask (drop n words) ≡ number_with mask words
number_with_parts mask n words =
    sym (sum_by-append (λ word. cond (contains_all mask word) 1 0) (take n words) (drop n words)) ∙ ap (number_with mask) (take-append-drop n words)
