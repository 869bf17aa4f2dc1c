-- The bytes between quotes as pieces.
use Rattle.std.proofs.Common.{◌≡◌, ◌⊎◌, ℕ, ◌+◌, ◌≤◌, List, [], ◌∷◌, ◌++◌, length, drop, refl, sym, ap, ◌∙◌, arith, append_assoc, length-append}
use Rattle.std.specs.List.{flat_map}
use Rattle.std.proofs.Math.Seq.{drop-append_seam}
use Rattle.std.proofs.lemmas.Grind.{flat_map-append}
use Rattle.std.proofs.lemmas.List.{append-nil}
use Rattle.grant_lex.specs.Class.{class_of}
use Rattle.grant_lex.specs.Inside.{BeginsWithPiece, Closes, HasBadPair, StaysOpen, IsPiece, ArePieces, Opens, spelling}
use Rattle.grant_lex.specs.Token.{IsQuotedFront, IsBadPair, IsUnclosed}
use Rattle.grant_lex.specs.declared.class.Class.TheVariants.{Quote, Backquote}
use Rattle.grant_lex.specs.declared.inside.Piece.{Piece}
use Rattle.grant_lex.proofs.Classes.{string_quote}
use Rattle.grant_lex.proofs.Runs.{all_append}

pub seam : (bytes front rest : List ℕ) (n : ℕ) → bytes ≡ front ++ rest → length front ≡ n → drop n bytes ≡ rest
seam bytes front rest n whole size = ap (λ k. drop k bytes) (sym size) ∙ ap (drop (length front)) whole ∙ drop-append_seam front rest

flat_push : (f : Piece → List ℕ) (ps : List Piece) (p : Piece) → flat_map f (ps ++ p ∷ []) ≡ flat_map f ps ++ f p
flat_push f ps p = flat_map-append f ps (p ∷ []) ∙ ap (λ l. flat_map f ps ++ l) (append-nil (f p))

pub within_start : (quote : ℕ) (bytes : List ℕ) → ArePieces quote bytes 0
within_start quote bytes = record { pieces = []; each = tt; whole = refl; size = refl }

pub within_more : (quote : ℕ) (bytes : List ℕ) (n : ℕ) (p : Piece) → ArePieces quote bytes n → BeginsWithPiece quote (drop n bytes) p → ArePieces quote bytes (n + length (spelling quote p))
within_more quote bytes n p so_far goes =
    let inner : List ℕ = flat_map (spelling quote) so_far.pieces in
    let parts : bytes ≡ (inner ++ spelling quote p) ++ goes.rest =
    so_far.whole ∙ ap (λ l. inner ++ l) goes.whole ∙ sym (append_assoc inner (spelling quote p) goes.rest) in
    let sizes : length (inner ++ spelling quote p) ≡ n + length (spelling quote p) =
    length-append inner (spelling quote p) ∙ ap (λ k. k + length (spelling quote p)) so_far.size in
    let pushed = flat_push (spelling quote) so_far.pieces p in
    record {
      pieces = so_far.pieces ++ p ∷ [];
      each = all_append (IsPiece quote) so_far.pieces (p ∷ []) so_far.each (goes.allowed, tt);
      whole = parts ∙ ap (λ l. l ++ goes.rest) (sym pushed) ∙ ap (λ l. flat_map (spelling quote) (so_far.pieces ++ p ∷ []) ++ l) (sym (seam bytes (inner ++ spelling quote p) goes.rest _ parts sizes));
      size = ap length pushed ∙ sizes;
    }

pub opens_within : (quote : ℕ) (bytes : List ℕ) (n : ℕ) → (so_far : ArePieces quote bytes n) → Opens quote so_far.pieces (quote ∷ bytes) (drop n bytes)
opens_within quote bytes n so_far = record { whole = ap (λ l. quote ∷ l) so_far.whole; each = so_far.each }

pub closed_within : (quote : ℕ) (bytes : List ℕ) (n : ℕ) → ArePieces quote bytes n → (rest : List ℕ) → Closes quote (drop n bytes) rest → IsQuotedFront quote (quote ∷ bytes) (n + 2)
closed_within quote bytes n so_far rest closes =
    let inner : List ℕ = flat_map (spelling quote) so_far.pieces in
    record {
      text = quote ∷ inner ++ quote ∷ [];
      rest = rest;
      whole = ap (λ l. quote ∷ l) (so_far.whole ∙ ap (λ l. inner ++ l) closes.whole ∙ sym (append_assoc inner (quote ∷ []) rest));
      size = omega (arith, length-append inner (quote ∷ []), so_far.size);
      sort = record {
        quote = quote;
        sort = refl;
        pieces = so_far.pieces;
        opens = record { whole = refl; each = so_far.each };
        ends = closes.ends;
      };
    }

pub bad_pair_within : (quote : ℕ) (bytes : List ℕ) (from n : ℕ) → (class_of quote ≡ Quote) ⊎ (class_of quote ≡ Backquote) → ArePieces quote bytes n → HasBadPair quote (drop n bytes) → IsBadPair from (quote ∷ bytes) (from + 1 + n)
bad_pair_within quote bytes from n sort so_far bad = record {
  quote = quote;
  sort = string_quote quote sort bad.escapes;
  pieces = so_far.pieces;
  rest = drop n bytes;
  opens = opens_within quote bytes n so_far;
  bad = bad;
  place = ap (λ k. from + 1 + k) (sym so_far.size);
}

pub open_within : (quote : ℕ) (bytes : List ℕ) (from n : ℕ) → (class_of quote ≡ Quote) ⊎ (class_of quote ≡ Backquote) → ArePieces quote bytes n → StaysOpen quote (drop n bytes) → IsUnclosed from (quote ∷ bytes) from
open_within quote bytes from n sort so_far open_end = record {
  quote = quote;
  sort = sort;
  pieces = so_far.pieces;
  rest = drop n bytes;
  opens = opens_within quote bytes n so_far;
  open_end = open_end;
  place = refl;
}

pub within_le : (quote : ℕ) (bytes : List ℕ) (n : ℕ) → ArePieces quote bytes n → n ≤ length bytes
within_le quote bytes n so_far =
    omega (arith, simp length-append at (ap length so_far.whole), so_far.size)
