-- The pieces of a text by its first cut.
use Rattle.std.proofs.Common.{◌≡◌, ℕ, ◌+◌, ◌==◌, nat_lt, Bool, true, false, eqb, List, [], ◌∷◌, ◌++◌, length, get_or, take, drop, Some, None, Option, refl, sym, ap, ◌∙◌, arith}
use Rattle.std.specs.Option.{option_map}
use Rattle.std.specs.List.{position, position_or_len}
use mathlib.Core.Logic.{⊎_elim}
use Rattle.std.proofs.lemmas.Bool.{eqb-true, ltb-true, ltb-false, cases_Bool}
use Rattle.std.proofs.lemmas.List.{take-append-drop, drop_more}
use Rattle.std.proofs.lemmas.List.Elements.{All-from_get_or}
use Rattle.std.proofs.lemmas.List.Quantifiers.{position-Some}
use Rattle.std.proofs.lemmas.List.Splits.{slice_split_first, slice_split_none}
use Rattle.std.proofs.lemmas.List.Sums.{fails_before_first}
use Rattle.texts.specs.Cuts.{pieces, cut}

-- the pieces, by what stands before the first byte c and what after it
abbrev pub by_cut : ℕ → List ℕ → Option (List ℕ × List ℕ) → List (List ℕ)
by_cut c bs None = bs ∷ []
by_cut c bs (Some r) = r.0 ∷ pieces c r.1

pub pieces_by_cut : (c : ℕ) (bs : List ℕ) → pieces c bs ≡ by_cut c bs (cut c bs)
pieces_by_cut c bs = ⊎_elim here nowhere (cases_Bool (nat_lt (position_or_len is_c bs) (length bs)))
  where
    is_c : ℕ → Bool
    is_c b = b == c

    here : nat_lt (position_or_len is_c bs) (length bs) ≡ true → pieces c bs ≡ by_cut c bs (cut c bs)
    here e = slice_split_first is_c bs 0 (ltb-true _ _ e) ∙ sym (rw e refl)

    nowhere : nat_lt (position_or_len is_c bs) (length bs) ≡ false → pieces c bs ≡ by_cut c bs (cut c bs)
    nowhere e = slice_split_none is_c bs (All-from_get_or (λ b. is_c b ≡ false) bs 0 (λ i h. fails_before_first is_c bs i 0 (omega (arith, ltb-false _ _ e)))) ∙ sym (rw e refl)

pub cut_off : (c : ℕ) (bs piece after : List ℕ) → cut c bs ≡ Some (piece, after) → pieces c bs ≡ piece ∷ pieces c after
cut_off c bs piece after e = pieces_by_cut c bs ∙ ap (by_cut c bs) e

pub uncut : (c : ℕ) (bs : List ℕ) → cut c bs ≡ None → pieces c bs ≡ bs ∷ []
uncut c bs e = pieces_by_cut c bs ∙ ap (by_cut c bs) e

-- a cut leaves out the byte c alone
pub cut_joined : (c : ℕ) (bs : List ℕ) (r : List ℕ × List ℕ) → cut c bs ≡ Some r → bs ≡ r.0 ++ c ∷ r.1
cut_joined c bs r e = by_place (position (λ b. eqb b c) bs) refl e
  where
    by_place : (o : Option ℕ) → position (λ b. eqb b c) bs ≡ o → option_map (λ k. (take k bs, drop (k + 1) bs)) o ≡ Some r
        → bs ≡ r.0 ++ c ∷ r.1
    by_place None p e = grind arith
    by_place (Some k) p e =
        let here = position-Some (λ b. eqb b c) bs k 0 p in
        let byte = eqb-true (get_or bs k 0) c here.1 in
        grind (arith, take-append-drop k bs, drop_more bs k 0 here.0)
