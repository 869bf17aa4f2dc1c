-- A text that is cut from the left: what has been cut goes on with every reading of the rest.
use Rattle.std.proofs.Common.{◌≡◌, ℕ, ◌+◌, ◌-◌, ◌<◌, ◌≤◌, List, [], ◌∷◌, ◌++◌, Option, Some, None, length, take, drop, sym, subst, ap, ◌∙◌, arith, append_assoc, length-append}
use Rattle.std.proofs.lemmas.List.{append-nil}
use Rattle.std.proofs.lemmas.Slice.{between_to_end}
use Rattle.grant_lex.specs.Token.{Continues, IsCut, IsFaultOf, IsOfSort, HasFault, Reads}
use Rattle.grant_lex.specs.declared.refusal.LexRefusal.{LexRefusal}
use Rattle.grant_lex.specs.declared.refusal.LexRefusal.TheVariants.{BadByte, Unclosed, NoMemory}
use Rattle.grant_lex.specs.declared.sorts.Kind.{Kind}
use Rattle.grant_lex.specs.declared.sorts.Kind.TheVariants.{Word, Quoted, Backquoted, Mark}
use Rattle.grant_lex.specs.declared.sorts.Token.{Token}
use Rattle.grant_lex.proofs.Quotes.{seam}

pub record IsSoFar (text : List ℕ) (at : ℕ) (rest : List ℕ) (ts : List Token) : Type 0 where
  pub room : at + length rest ≡ length text
  pub goes_on : (more : List Token) (end : Option LexRefusal) → Reads at rest more end → Reads 0 text (ts ++ more) end

pub so_far_start : (text : List ℕ) → IsSoFar text 0 text []
so_far_start text = record { room = omega arith; goes_on = λ more end reads. reads }

-- a token is not empty
pub sort_some : (kind : Kind) (text rest : List ℕ) → IsOfSort kind text rest → 0 < length text
sort_some Word text rest sort = sort.some
sort_some Quoted text rest sort = omega (arith, ap length sort.opens.whole)
sort_some Backquoted text rest sort = omega (arith, ap length sort.opens.whole)
sort_some (Mark b) text rest sort = omega (arith, ap length sort.1)

-- where the next token ends
pub record StepEnds (at : ℕ) (bytes : List ℕ) (t : Token) (rest : List ℕ) : Type 0 where
  pub onward : at < t.to
  pub within : t.to ≤ at + length bytes
  pub room : t.to + length rest ≡ at + length bytes
  pub left : take (length bytes - (t.to - at)) (drop (t.to - at) bytes) ≡ rest

pub step_ends : (at : ℕ) (bytes : List ℕ) (t : Token) (rest : List ℕ) → Continues at bytes t rest → StepEnds at bytes t rest
step_ends at bytes t rest step =
    let front : List ℕ = step.blanks ++ step.next.text in
    let whole : bytes ≡ front ++ rest = step.whole ∙ ap (λ l. step.blanks ++ l) step.next.whole ∙ sym (append_assoc step.blanks step.next.text rest) in
    let some = sort_some t.kind step.next.text rest step.next.sort in
    let parts : length front ≡ length step.blanks + length step.next.text = length-append step.blanks step.next.text in
    let sizes : length bytes ≡ length front + length rest = ap length whole ∙ length-append front rest in
    let ends : t.to ≡ at + length front = step.next.ends ∙ omega arith in
    let size : length front ≡ t.to - at = omega arith in
    record {
      onward = omega arith;
      within = omega arith;
      room = omega arith;
      left = between_to_end bytes (t.to - at) (length bytes) (omega arith) ∙ seam bytes front rest (t.to - at) whole size;
    }

pub so_far_more : (text : List ℕ) (at : ℕ) (bytes : List ℕ) (ts : List Token) (t : Token) (rest : List ℕ) → IsSoFar text at bytes ts → Continues at bytes t rest → IsSoFar text t.to rest (ts ++ t ∷ [])
so_far_more text at bytes ts t rest so_far step = record {
  room = (step_ends at bytes t rest step).room ∙ so_far.room;
  goes_on = λ more end reads.
      subst (λ l. Reads 0 text l end) (sym (append_assoc ts (t ∷ []) more)) (so_far.goes_on (t ∷ more) end (rest, step, reads));
}

pub so_far_cut : (text : List ℕ) (at : ℕ) (bytes : List ℕ) (ts : List Token) → IsSoFar text at bytes ts → Reads at bytes [] None → IsCut text ts
so_far_cut text at bytes ts so_far reads = subst (λ l. Reads 0 text l None) (append-nil ts) (so_far.goes_on [] None reads)

pub so_far_fault : (text : List ℕ) (at : ℕ) (bytes : List ℕ) (ts : List Token) (fault : LexRefusal) → IsSoFar text at bytes ts → Reads at bytes [] (Some fault) → HasFault text fault
so_far_fault text at bytes ts fault so_far reads = (ts ++ [], so_far.goes_on [] (Some fault) reads)

pub fault_of : (text : List ℕ) (fault : LexRefusal) → HasFault text fault → IsFaultOf text fault
fault_of text (BadByte offset) fault = fault
fault_of text (Unclosed offset) fault = fault
fault_of text NoMemory fault = tt
