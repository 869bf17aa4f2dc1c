-- A text has no more tokens than bytes.
use Rattle.std.proofs.Common.{◌≡◌, ◌<◌, ◌≤◌, ◌+◌, ℕ, List, [], ◌∷◌, length, length-append, Option, None, ap, ◌∙◌, arith}
use Rattle.grant_lex.specs.Token.{IsCut, IsOfSort, Reads}
use Rattle.grant_lex.specs.declared.refusal.LexRefusal.{LexRefusal}
use Rattle.grant_lex.specs.declared.sorts.Kind.{Kind}
use Rattle.grant_lex.specs.declared.sorts.Kind.TheVariants.{Word, Quoted, Backquoted, Mark}
use Rattle.grant_lex.specs.declared.sorts.Token.{Token}

sort_some : (kind : Kind) (text rest : List ℕ) → IsOfSort kind text rest → 0 < length text
sort_some Word text rest h = h.some
sort_some Quoted text rest h = let whole = ap length h.opens.whole in omega arith
sort_some Backquoted text rest h = let whole = ap length h.opens.whole in omega arith
sort_some (Mark b) text rest (h, one) = let whole = ap length one in omega arith

reads_few : (at : ℕ) (bytes : List ℕ) (tokens : List Token) (end : Option LexRefusal) → Reads at bytes tokens end → length tokens ≤ length bytes
reads_few at bytes [] end h = omega arith
reads_few at bytes (t ∷ ts) end (rest, here, more) =
    let few : length ts ≤ length rest = reads_few t.to rest ts end more in
    let some : 0 < length here.next.text = sort_some t.kind here.next.text rest here.next.sort in
    let whole : length bytes ≡ length here.blanks + length here.rest = ap length here.whole ∙ length-append here.blanks here.rest in
    let inner : length here.rest ≡ length here.next.text + length rest = ap length here.next.whole ∙ length-append here.next.text rest in
    omega arith

pub tokens_are_few : (text : List ℕ) (tokens : List Token) → IsCut text tokens → length tokens ≤ length text
tokens_are_few text tokens h = reads_few 0 text tokens None h
