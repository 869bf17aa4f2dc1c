-- What the answers about whole lists come to.
use Rattle.std.proofs.Common.{◌≡◌, ◌⊎◌, List, Ok, Err, Result, IfOk, IfErr, MatchResult, sym, ◌∙◌, subst, inl, inr}
use Rattle.acl_grammar.specs.Code.{Answers, IsNoMemory, RefusedAs}
use Rattle.acl_grammar.specs.Grammar.{Grammar}
use Rattle.acl_grammar.specs.Grammar.Grammar.{to}
use Rattle.acl_grammar.specs.Reader.{Sane, read_whole, read_either}
use Rattle.acl_grammar.specs.Spelling.{Disjoint, Refused, one_of, spells}
use Rattle.acl_grammar.specs.declared.refusal.Refusal.{Refusal}
use Rattle.acl_grammar.specs.declared.refusal.Refusal.TheVariants.{NoMemory, At}
use Rattle.acl_grammar.proofs.Whole.{Right, whole_right, whole_only, either_right, either_only}

-- a reading of whole lists that is right, and that reads all that is spelled
pub record Complete {T A : Type 0} (P : List T → A → Type 0) (ts : List T) (x : Result A (List T)) : Type 0 where
  pub right : Right P ts x
  pub only : (v : A) → P ts v → x ≡ Ok v

pub whole_complete : {T A : Type 0} (g : Grammar T A) → Sane g → (ts : List T) → Complete (spells g) ts (read_whole g ts)
whole_complete g sane ts = record { right = whole_right g sane ts; only = whole_only g sane ts }

apart_values : {T A B : Type 0} (g : Grammar T A) (h : Grammar T B) → Disjoint g h → Disjoint {A = A ⊎ B} {B = A ⊎ B} (to inl g) (to inr h)
apart_values g h disjoint ts v w (a, left, e) (b, right, f) = disjoint ts a b left right

pub either_complete : {T A B : Type 0} (g : Grammar T A) (h : Grammar T B) → Sane g → Sane h → Disjoint g h → (ts : List T)
    → Complete (spells (one_of g h)) ts (read_either (to inl g) (to inr h) ts)
either_complete {A = A} {B = B} g h left right disjoint ts =
    let l : Grammar _ (A ⊎ B) = to inl g in let r : Grammar _ (A ⊎ B) = to inr h in
    record {
      right = either_right (spells l) (spells r) ts (read_whole l ts) (read_whole r ts) (whole_right l left ts) (whole_right r right ts);
      only = either_only l r left right (apart_values g h disjoint) ts;
    }

pub answer_found : {T V A : Type 0} (P : List T → A → Type 0) (ts : List T) (x : Result A (List T)) → Complete P ts x
    → (view : V → A) (answer : Result V (Refusal T)) → Answers view answer x → IfOk answer (λ value. P ts (view value))
answer_found P ts x k view (Ok value) h = subst (Right P ts) h k.right
answer_found P ts x k view (Err refusal) h = tt

pub answer_only : {T V A : Type 0} (P : List T → A → Type 0) (ts : List T) (x : Result A (List T)) → Complete P ts x
    → (view : V → A) (answer : Result V (Refusal T)) → Answers view answer x
    → (meaning : A) → P ts meaning → MatchResult answer (λ value. meaning ≡ view value) IsNoMemory
answer_only P ts x k view (Ok value) h meaning spelled =
    let e : Ok meaning ≡ Ok (view value) = sym (k.only meaning spelled) ∙ h in cc
answer_only P ts x k view (Err NoMemory) h meaning spelled = tt
answer_only P ts x k view (Err (At rest)) h meaning spelled =
    let e : Ok meaning ≡ Err rest.now = sym (k.only meaning spelled) ∙ h in absurd cc

pub answer_refused : {T V A : Type 0} (P : List T → A → Type 0) (ts : List T) (x : Result A (List T)) → Complete P ts x
    → (view : V → A) (answer : Result V (Refusal T)) → Answers view answer x → IfErr answer (RefusedAs (Refused P ts))
answer_refused P ts x k view (Ok value) h = tt
answer_refused P ts x k view (Err NoMemory) h = tt
answer_refused P ts x k view (Err (At rest)) h = subst (Right P ts) h k.right
