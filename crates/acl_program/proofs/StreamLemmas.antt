-- Bytes that are read and written piece by piece.
use Rattle.std.proofs.Common.{◌≡◌, ℕ, ◌+◌, ◌-◌, ◌<◌, suc, Bor, List, [], ◌∷◌, ◌++◌, map, get_or, append-nil, length, take, drop, Option, None, Some, Result, Ok, Err, IfSome, OnErr, sym, ap, subst, ◌∙◌, arith, length-append, length-drop, append_assoc}
use Rattle.std.proofs.Math.Seq.{take-add, take-length, drop-append_seam, drop-append-add, take-append-add}
use Rattle.std.proofs.Math.Seq.{drop-cons}
use Rattle.std.specs.List.{concat}
use Rattle.std.proofs.lemmas.List.{map-append, take_more, take-append-drop, take-append-le}
use Rattle.std.proofs.lemmas.List.Folds.{concat-append}
use Rattle.std.proofs.lemmas.Option.{MatchOption-at_some}
use Rattle.acl_ports.specs.Source.{Gives, Reads}
use Rattle.acl_ports.specs.declared.Failed.{Failed}
use Rattle.acl_program.specs.Streams.{IsCutBeyond, IsEndLeft, IsPrefixWritten}

-- all the bytes are those that were read and those that are left
pub record IsSplit (all read : List ℕ) (left : Option (List ℕ)) : Type 0 where
  pub rest : List ℕ
  pub parts : all ≡ read ++ rest
  pub left_is : left ≡ Some rest

-- where the bytes are known, these of them were read
abbrev pub IsReadTo : Option (List ℕ) → List ℕ → Option (List ℕ) → Type 0
IsReadTo before read left = IfSome before (λ all. IsSplit all read left)

-- whatever a read answers, it leaves an end of the bytes
pub read_left : (before now after : Option (List ℕ)) (read into : List ℕ) (result : Result ℕ Failed) → IsReadTo before read now
    → IfSome now (λ bytes. Reads bytes after into result) → IfSome before (λ all. IsEndLeft all after)
read_left None now after read into result split reads = tt
read_left (Some all) now after read into (Ok count) split reads =
    let gives = MatchOption-at_some _ (λ bytes. Gives bytes after into count) _ split.left_is reads in
    (length read + count, gives.2 ∙ ap Some (sym (ap (drop (length read + count)) split.parts ∙ drop-append-add read split.rest count)))
read_left (Some all) now after read into (Err fault) split reads =
    let same = MatchOption-at_some _ (λ bytes. after ≡ Some bytes) _ split.left_is reads in
    (length read, same ∙ ap Some (sym (ap (drop (length read)) split.parts ∙ drop-append_seam read split.rest)))

-- one byte more than the limit was read
pub read_beyond : (before now : Option (List ℕ)) (read : List ℕ) (limit : ℕ) → IsReadTo before read now
    → length read ≡ limit + 1 → IfSome before (λ all. IsCutBeyond limit all now)
read_beyond None now read limit split long = tt
read_beyond (Some all) now read limit split long = (
  omega (arith, ap length split.parts, length-append read split.rest),
  split.left_is ∙ ap Some (sym (ap (λ n. drop n all) (sym long) ∙ ap (drop (length read)) split.parts ∙ drop-append_seam read split.rest)),
)

-- a put writes the next bytes of what the text has left
pub written_more : (before now after : Option (List ℕ)) (text : List ℕ) (done count : ℕ) → IfSome before (λ bytes. now ≡ Some (bytes ++ take done text))
    → IfSome now (λ bytes. after ≡ Some (bytes ++ take count (take (length text - done) (drop done text))))
    → IfSome before (λ bytes. after ≡ Some (bytes ++ take (done + count) text))
written_more None now after text done count written added = tt
written_more (Some bytes) now after text done count written added =
    let piece : List ℕ = take (length text - done) (drop done text) in
    let whole : piece ≡ drop done text = ap (λ n. take n (drop done text)) (sym (length-drop done text)) ∙ take-length (drop done text) in
    let parts : take done text ++ take count piece ≡ take (done + count) text = ap (λ xs. take done text ++ take count xs) whole ∙ sym (take-add done count text) in
    MatchOption-at_some _ (λ front. after ≡ Some (front ++ take count piece)) _ written added
    ∙ ap Some (append_assoc bytes (take done text) (take count piece) ∙ ap (λ xs. bytes ++ xs) parts)

-- where a front of the texts was written and then a front of the next, a front of them all is
pub front_more : (before now after : Option (List ℕ)) (front part behind : List ℕ) → IfSome before (λ bytes. now ≡ Some (bytes ++ front))
    → IfSome now (λ bytes. IsPrefixWritten bytes part after) → IfSome before (λ bytes. IsPrefixWritten bytes (front ++ (part ++ behind)) after)
front_more None now after front part behind written added = tt
front_more (Some bytes) now after front part behind written added =
    let more = MatchOption-at_some _ (λ old. IsPrefixWritten old part after) _ written added in
    let count = more.0 in
    let taken : take (length front + count) (front ++ (part ++ behind)) ≡ front ++ take count part = take-append-add front (part ++ behind) count ∙ ap (λ xs. front ++ xs) (take-append-le count part behind more.1) in (
      length front + count,
      omega (arith, more.1, length-append front (part ++ behind), length-append part behind),
      more.2 ∙ ap Some (append_assoc bytes front (take count part) ∙ ap (λ xs. bytes ++ xs) (sym taken)),
    )

-- and where the next was written whole, they all are
pub whole_more : (before now after : Option (List ℕ)) (front part : List ℕ) → IfSome before (λ bytes. now ≡ Some (bytes ++ front))
    → IfSome now (λ bytes. after ≡ Some (bytes ++ part)) → IfSome before (λ bytes. after ≡ Some (bytes ++ (front ++ part)))
whole_more None now after front part written added = tt
whole_more (Some bytes) now after front part written added =
    MatchOption-at_some _ (λ old. after ≡ Some (old ++ part)) _ written added ∙ ap Some (append_assoc bytes front part)

-- texts that are written one behind the other

parts_append : (xs ys : List (Bor (List ℕ))) → concat (map (λ (part : Bor (List ℕ)). part.now) (xs ++ ys)) ≡ concat (map (λ (part : Bor (List ℕ)). part.now) xs) ++ concat (map (λ (part : Bor (List ℕ)). part.now) ys)
parts_append xs ys =
    ap concat (map-append (λ (part : Bor (List ℕ)). part.now) xs ys) ∙ concat-append (map (λ (part : Bor (List ℕ)). part.now) xs) (map (λ (part : Bor (List ℕ)). part.now) ys)

pub parts_more : (parts : List (Bor (List ℕ))) (i : ℕ) (d : Bor (List ℕ)) → i < length parts
    → concat (map (λ (part : Bor (List ℕ)). part.now) (take (i + 1) parts)) ≡ concat (map (λ (part : Bor (List ℕ)). part.now) (take i parts)) ++ (get_or parts i d).now
parts_more parts i d below =
    ap (λ xs. concat (map (λ (part : Bor (List ℕ)). part.now) xs)) (take_more parts i d below) ∙ parts_append (take i parts) (get_or parts i d ∷ [])
    ∙ ap (λ xs. concat (map (λ (part : Bor (List ℕ)). part.now) (take i parts)) ++ xs) (append-nil (get_or parts i d).now)

pub parts_split : (parts : List (Bor (List ℕ))) (i : ℕ) (d : Bor (List ℕ)) → i < length parts
    → concat (map (λ (part : Bor (List ℕ)). part.now) parts) ≡ concat (map (λ (part : Bor (List ℕ)). part.now) (take i parts)) ++ ((get_or parts i d).now ++ concat (map (λ (part : Bor (List ℕ)). part.now) (drop (suc i) parts)))
parts_split parts i d below =
    ap (λ xs. concat (map (λ (part : Bor (List ℕ)). part.now) xs)) (sym (take-append-drop i parts) ∙ ap (λ rest. take i parts ++ rest) (drop-cons parts i d below))
    ∙ parts_append (take i parts) (get_or parts i d ∷ drop (suc i) parts)

on_err : {T E : Type 0} (before : Option (List ℕ)) (P : List ℕ → Type 0) (result : Result T E) → IfSome before P → IfSome before (λ bytes. OnErr result (P bytes))
on_err None P result all = tt
on_err (Some bytes) P (Ok value) all = tt
on_err (Some bytes) P (Err error) all = all

pub parts_whole : (before now after : Option (List ℕ)) (parts : List (Bor (List ℕ))) (i : ℕ) (d : Bor (List ℕ)) (part : List ℕ) → i < length parts → part ≡ (get_or parts i d).now
    → IfSome before (λ bytes. now ≡ Some (bytes ++ concat (map (λ (p : Bor (List ℕ)). p.now) (take i parts)))) → IfSome now (λ bytes. after ≡ Some (bytes ++ part))
    → IfSome before (λ bytes. after ≡ Some (bytes ++ concat (map (λ (p : Bor (List ℕ)). p.now) (take (i + 1) parts))))
parts_whole before now after parts i d part below same written added =
    let front : List ℕ = concat (map (λ (p : Bor (List ℕ)). p.now) (take i parts)) in
    let P : List ℕ → Type 0 = λ text. IfSome before (λ bytes. after ≡ Some (bytes ++ text)) in
    subst P (ap (λ xs. front ++ xs) same ∙ sym (parts_more parts i d below)) (whole_more before now after front part written added)

pub parts_front : {T E : Type 0} (before now after : Option (List ℕ)) (parts : List (Bor (List ℕ))) (i : ℕ) (d : Bor (List ℕ)) (part : List ℕ) (result : Result T E) → i < length parts → part ≡ (get_or parts i d).now
    → IfSome before (λ bytes. now ≡ Some (bytes ++ concat (map (λ (p : Bor (List ℕ)). p.now) (take i parts)))) → IfSome now (λ bytes. IsPrefixWritten bytes part after)
    → IfSome before (λ bytes. OnErr result (IsPrefixWritten bytes (concat (map (λ (p : Bor (List ℕ)). p.now) parts)) after))
parts_front before now after parts i d part result below same written added =
    let front : List ℕ = concat (map (λ (p : Bor (List ℕ)). p.now) (take i parts)) in
    let behind : List ℕ = concat (map (λ (p : Bor (List ℕ)). p.now) (drop (suc i) parts)) in
    let P : List ℕ → Type 0 = λ text. IfSome before (λ bytes. IsPrefixWritten bytes text after) in
    on_err before (λ bytes. IsPrefixWritten bytes (concat (map (λ (p : Bor (List ℕ)). p.now) parts)) after) result
    (subst P (ap (λ xs. front ++ (xs ++ behind)) same ∙ sym (parts_split parts i d below)) (front_more before now after front part behind written added))
