-- Which bytes a line of fields takes, and that what follows them does not matter to what is read.
--
--   fields_taken   2 to 8 bytes for each field, the same before any bytes
use mathlib.Core.Path.{◌≡◌, refl, sym, ap, ◌∙◌}
use mathlib.Core.List.{List, [], ◌∷◌, ◌++◌, append_assoc}
use Prim.Native.Nat.{ℕ, zero, suc, ◌*◌, ◌≤◌}
use native.Mathlib.Omega.{arith}
use lib.ListN.{length, length-append}
use Rattle.model.specs.Decimal.{Number, no_number, number}
use Rattle.model.specs.Lines.{Fields, malformed, fields, semicolon, read_field, with_field, read_fields_to}
use Rattle.model.proofs.Worklists.LineLaws.{fields_last, fields_last_none, fields_more, fields_more_none}
use Rattle.model.proofs.Worklists.TakenLaws.{FieldTaken, field_taken}

malformed_is_none : {A : Type 0} (values rest : List ℕ) → malformed ≡ fields values rest → A
malformed_is_none values rest is = let never : ◌≡◌ {A = ℕ} 0 1 = cc in absurd (omega arith)

pub record FieldsTaken (last count : ℕ) (bytes values rest : List ℕ) : Type 0 where
  pub front : List ℕ
  pub splits : bytes ≡ front ++ rest
  pub at_least : 2 * count ≤ length front
  pub at_most : length front ≤ 8 * count
  pub reads : (other : List ℕ) → read_fields_to last count (front ++ other) ≡ fields values other

module _ (last : ℕ) (bytes : List ℕ) where
  one_taken : (values rest : List ℕ)
      → read_fields_to last 1 bytes ≡ fields values rest
      → FieldsTaken last 1 bytes values rest
  one_taken values rest is = by_field (read_field last bytes) refl
    where
      with_field_lem : (value : ℕ)
          → value ∷ [] ≡ values
          → FieldTaken last bytes value rest
          → FieldsTaken last 1 bytes values rest
      with_field_lem value same taken = record {
        front = taken.front;
        splits = taken.splits;
        at_least = taken.at_least;
        at_most = taken.at_most;
        reads = λ follows.
            fields_last last (taken.front ++ follows) value follows (taken.reads follows)
            ∙ ap (λ (read : List ℕ). fields read follows) same;
      }

      by_field : (found : Number) → read_field last bytes ≡ found
          → FieldsTaken last 1 bytes values rest
      by_field no_number here = malformed_is_none _ _ (sym (fields_last_none last bytes here) ∙ is)
      by_field (number value after) here =
          let same : fields (value ∷ []) after ≡ fields values rest
          = sym (fields_last last bytes value after here) ∙ is in
          with_field_lem value (cc) (field_taken last bytes value rest (here ∙ cc))

  more_taken : (more value : ℕ) (after values rest : List ℕ)
      → FieldTaken semicolon bytes value after
      → FieldsTaken last (suc more) after values rest
      → FieldsTaken last (suc (suc more)) bytes (value ∷ values) rest
  more_taken more value after values rest first others = record {
    front = first.front ++ others.front;
    splits =
        first.splits
        ∙ ap (λ (end : List ℕ). first.front ++ end) others.splits
        ∙ sym (append_assoc first.front others.front rest);
    at_least = simp length-append (omega (arith, first.at_least, others.at_least));
    at_most = simp length-append (omega (arith, first.at_most, others.at_most));
    reads = λ follows.
        ap (read_fields_to last (suc (suc more)))
        (append_assoc first.front others.front follows)
        ∙ fields_more last (first.front ++ (others.front ++ follows)) more value
        (others.front ++ follows) (first.reads (others.front ++ follows))
        ∙ ap (with_field value) (others.reads follows);
  }

pub fields_taken : (last count : ℕ) (bytes values rest : List ℕ)
    → read_fields_to last count bytes ≡ fields values rest
    → FieldsTaken last count bytes values rest
fields_taken last zero bytes values rest is = malformed_is_none _ _ is
fields_taken last (suc zero) bytes values rest is = one_taken last bytes values rest is
fields_taken last (suc (suc more)) bytes values rest is =
    by_field (read_field semicolon bytes) refl (fields_taken last (suc more))
  where
    by_fields : (value : ℕ) (after : List ℕ) (others : Fields)
        → read_field semicolon bytes ≡ number value after
        → read_fields_to last (suc more) after ≡ others
        → ((found left : List ℕ)
        → read_fields_to last (suc more) after ≡ fields found left
        → FieldsTaken last (suc more) after found left)
        → FieldsTaken last (suc (suc more)) bytes values rest
    by_fields value after malformed here there further =
        malformed_is_none _ _
        (sym (fields_more last bytes more value after here ∙ ap (with_field value) there) ∙ is)
    by_fields value after (fields found left) here there further =
        let same : fields (value ∷ found) left ≡ fields values rest
        = sym (fields_more last bytes more value after here ∙ ap (with_field value) there) ∙ is in
        let whole : value ∷ found ≡ values = cc in
        rw (← whole)
        (more_taken last bytes more value after found rest
        (field_taken semicolon bytes value after here)
        (further found rest (there ∙ cc)))

    by_field : (found : Number)
        → read_field semicolon bytes ≡ found
        → ((after found left : List ℕ)
        → read_fields_to last (suc more) after ≡ fields found left
        → FieldsTaken last (suc more) after found left)
        → FieldsTaken last (suc (suc more)) bytes values rest
    by_field no_number here further =
        malformed_is_none _ _ (sym (fields_more_none last bytes more here) ∙ is)
    by_field (number value after) here further =
        by_fields value after (read_fields_to last (suc more) after) here refl (further after)
