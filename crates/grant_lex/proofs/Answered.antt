-- What follows for an answer from there being one reading.
use Rattle.std.proofs.Common.{◌≡◌, ℕ, List, Result, Ok, Err, IfOk, IfErr, Some, None, refl, sym, inl, inr}
use Rattle.grant_lex.specs.Token.{AnswersTokens, HasFault, IsCut, IsFaultOf, AnswersFault}
use Rattle.grant_lex.specs.declared.refusal.LexRefusal.{LexRefusal}
use Rattle.grant_lex.specs.declared.refusal.LexRefusal.TheVariants.{BadByte, Unclosed, NoMemory}
use Rattle.grant_lex.specs.declared.sorts.Token.{Token}
use Rattle.grant_lex.proofs.Unique.{reads_same, some_none}

pub cuts_same : (text : List ℕ) (ts us : List Token) → IsCut text ts → IsCut text us → ts ≡ us
cuts_same text ts us a b = (reads_same 0 text ts us None None a b).tokens

pub faults_same : (text : List ℕ) (f g : LexRefusal) → HasFault text f → HasFault text g → f ≡ g
faults_same text f g a b = let same = (reads_same 0 text a.0 b.0 (Some f) (Some g) a.1 b.1).ends in cc (same)

pub cut_or_fault : (text : List ℕ) (ts : List Token) (f : LexRefusal) → IsCut text ts → HasFault text f → ⊥
cut_or_fault text ts f a b = some_none f (sym (reads_same 0 text ts b.0 None (Some f) a b.1).ends)

pub answers_cut : (text : List ℕ) (r : Result (List Token) LexRefusal) → IfOk r (λ ts. IsCut text ts) → IfErr r (λ f. IsFaultOf text f) → (others : List Token) → IsCut text others → AnswersTokens r others
answers_cut text (Ok ts) ok err others cut = cuts_same text ts others ok cut
answers_cut text (Err (BadByte offset)) ok err others cut = absurd (cut_or_fault text others (BadByte offset) cut err)
answers_cut text (Err (Unclosed offset)) ok err others cut = absurd (cut_or_fault text others (Unclosed offset) cut err)
answers_cut text (Err NoMemory) ok err others cut = refl

pub refuses_fault : (text : List ℕ) (r : Result (List Token) LexRefusal) → IfOk r (λ ts. IsCut text ts) → IfErr r (λ f. IsFaultOf text f) → (fault : LexRefusal) → HasFault text fault → AnswersFault r fault
refuses_fault text (Ok ts) ok err fault has = cut_or_fault text ts fault ok has
refuses_fault text (Err (BadByte offset)) ok err fault has = inl (faults_same text (BadByte offset) fault err has)
refuses_fault text (Err (Unclosed offset)) ok err fault has = inl (faults_same text (Unclosed offset) fault err has)
refuses_fault text (Err NoMemory) ok err fault has = inr refl
