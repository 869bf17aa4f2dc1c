-- What is written token by token is cut into just these tokens.
use Rattle.std.proofs.Common.{◌≡◌, ℕ, ◌+◌, List, [], ◌∷◌, ◌++◌, None, length, refl, sym, subst}
use Rattle.std.specs.List.{flat_map}
use Rattle.grant_lex.specs.Inside.{spelling}
use Rattle.grant_lex.specs.Next.{BeginsWithout}
use Rattle.grant_lex.specs.Printed.{ArePrinted, GoesOn, Printed, printed, tokens_of}
use Rattle.grant_lex.specs.Token.{IsCut, IsOfSort, IsQuoted, Reads}
use Rattle.grant_lex.specs.declared.class.Class.{Class}
use Rattle.grant_lex.specs.declared.class.Class.TheVariants.{Quote, Backquote}
use Rattle.grant_lex.specs.declared.sorts.Kind.{Kind}
use Rattle.grant_lex.specs.declared.sorts.Kind.TheVariants.{Word, Quoted, Backquoted, Mark}

quote_apart : (quote : ℕ) (text inner rest : List ℕ) → text ≡ quote ∷ inner → BeginsWithout (λ b. (more : List ℕ) × (text ≡ b ∷ more)) rest → BeginsWithout (λ b. b ≡ quote) rest
quote_apart quote text inner [] whole apart = tt
quote_apart quote text inner (b ∷ rest) whole apart = λ same. apart (inner, subst (λ k. text ≡ k ∷ inner) (sym same) whole)

quoted_before : (class : Class) (text rest : List ℕ) → IsQuoted class text [] → BeginsWithout (λ b. (more : List ℕ) × (text ≡ b ∷ more)) rest → IsQuoted class text rest
quoted_before class text rest quoted apart = record {
  quote = quoted.quote;
  sort = quoted.sort;
  pieces = quoted.pieces;
  opens = quoted.opens;
  ends = quote_apart quoted.quote text (flat_map (spelling quoted.quote) quoted.pieces ++ quoted.quote ∷ []) rest quoted.opens.whole apart;
}

-- a token by itself is one before what does not go on with it
sort_before : (kind : Kind) (text rest : List ℕ) → IsOfSort kind text [] → BeginsWithout (GoesOn kind text) rest → IsOfSort kind text rest
sort_before Word text rest sort apart = record { some = sort.some; each = sort.each; ends = apart }
sort_before Quoted text rest sort apart = quoted_before Quote text rest sort apart
sort_before Backquoted text rest sort apart = quoted_before Backquote text rest sort apart
sort_before (Mark b) text rest sort apart = sort

reads_printed : (at : ℕ) (ps : List Printed) → ArePrinted ps → Reads at (printed ps) (tokens_of at ps) None
reads_printed at [] each = tt
reads_printed at (p ∷ ps) each = (
  printed ps,
  record {
    blanks = p.blanks;
    rest = p.text ++ printed ps;
    whole = refl;
    each = each.0;
    next = record { text = p.text; whole = refl; begins = refl; ends = refl; sort = sort_before p.kind p.text (printed ps) each.1 each.2 };
  },
  reads_printed (at + length p.blanks + length p.text) ps each.3,
)

pub printed_cut : (ps : List Printed) → ArePrinted ps → IsCut (printed ps) (tokens_of 0 ps)
printed_cut ps each = reads_printed 0 ps each
