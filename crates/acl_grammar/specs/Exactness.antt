-- What a reader does that takes the front of a list and looks at the next token alone.
use Rattle.std.specs.Prelude.{◌≡◌, ◌++◌, List, Ok, Err}
use Rattle.acl_grammar.specs.Reader.{Reading, next}
use Rattle.acl_grammar.specs.Spelling.{Viable}

-- the value is spelled by a front, and of the rest the reader saw its first token at most
pub record Took {T A : Type 0} (P : List T → A → Type 0) (r : List T → Reading T A) (ts : List T) (v : A) (rest : List T) : Type 0 where
  pub front : List T
  pub whole : ts ≡ front ++ rest
  pub spelled : P front v
  pub again : (us : List T) → next us ≡ next rest → r (front ++ us) ≡ Ok (v, us)

-- some spelling begins with the front, and of what is left the reader saw the first token at most
pub record Stopped {T A : Type 0} (P : List T → A → Type 0) (r : List T → Reading T A) (ts bad : List T) : Type 0 where
  pub front : List T
  pub whole : ts ≡ front ++ bad
  pub viable : Viable P front
  pub again : (us : List T) → next us ≡ next bad → r (front ++ us) ≡ Err us
