-- Laws of reading the fields of a line, field by field.
--
--   fields_more, fields_more_none    a field before the last: it is read, or the line is malformed
--   fields_last, fields_last_none    the last field
--   followed_by                      fields, and then those that the bytes after them give
--   fields_add                       a line of fields as two runs of them
use mathlib.Core.Path.{◌≡◌, refl, sym, ap, ◌∙◌}
use mathlib.Core.List.{List, [], ◌∷◌}
use Prim.Native.Nat.{ℕ, zero, suc, ◌+◌}
use native.Mathlib.Nat.{zero-add, suc-add}
use Rattle.model.specs.Decimal.{Number, no_number, number}
use Rattle.model.specs.Lines.{Fields, malformed, fields, semicolon, read_field, with_field, read_fields_to}

module _ (last : ℕ) (bytes : List ℕ) where
  pub fields_last : (value : ℕ) (rest : List ℕ)
      → read_field last bytes ≡ number value rest
      → read_fields_to last 1 bytes ≡ fields (value ∷ []) rest
  fields_last value rest here = rw (here, read_fields_to)

  pub fields_last_none : read_field last bytes ≡ no_number → read_fields_to last 1 bytes ≡ malformed
  fields_last_none none = rw (none, read_fields_to)

  pub fields_more : (more value : ℕ) (rest : List ℕ)
      → read_field semicolon bytes ≡ number value rest
      → read_fields_to last (suc (suc more)) bytes
      ≡ with_field value (read_fields_to last (suc more) rest)
  fields_more more value rest here = rw (here, read_fields_to)

  pub fields_more_none : (more : ℕ)
      → read_field semicolon bytes ≡ no_number
      → read_fields_to last (suc (suc more)) bytes ≡ malformed
  fields_more_none more none = rw (none, read_fields_to)

-- ---- Two runs of fields

abbrev pub with_fields : List ℕ → Fields → Fields
with_fields [] later = later
with_fields (value ∷ values) later = with_field value (with_fields values later)

abbrev pub followed_by : Fields → (List ℕ → Fields) → Fields
followed_by malformed later = malformed
followed_by (fields values rest) later = with_fields values (later rest)

followed_with : (value : ℕ) (first : Fields) (later : List ℕ → Fields)
    → followed_by (with_field value first) later ≡ with_field value (followed_by first later)
followed_with value malformed later = refl
followed_with value (fields values rest) later = refl

-- n + 1 fields, the last of them ended by a semicolon, and m + 1 more.
pub fields_add : (last n m : ℕ) (bytes : List ℕ)
    → read_fields_to last (suc (suc (n + m))) bytes
    ≡ followed_by (read_fields_to semicolon (suc n) bytes) (read_fields_to last (suc m))
fields_add last zero m bytes = rw (zero-add m) (by_field (read_field semicolon bytes) refl)
  where
    by_field : (found : Number)
        → read_field semicolon bytes ≡ found
        → read_fields_to last (suc (suc m)) bytes
        ≡ followed_by (read_fields_to semicolon 1 bytes) (read_fields_to last (suc m))
    by_field no_number none =
        fields_more_none last bytes m none
        ∙ sym
        (ap (λ (first : Fields). followed_by first (read_fields_to last (suc m)))
        (fields_last_none semicolon bytes none))
    by_field (number value rest) here =
        fields_more last bytes m value rest here
        ∙ sym
        (ap (λ (first : Fields). followed_by first (read_fields_to last (suc m)))
        (fields_last semicolon bytes value rest here))
fields_add last (suc n) m bytes =
    rw (suc-add n m) (by_field (read_field semicolon bytes) refl (λ rest. fields_add last n m rest))
  where
    by_field : (found : Number)
        → read_field semicolon bytes ≡ found
        → ((rest : List ℕ)
        → read_fields_to last (suc (suc (n + m))) rest
        ≡ followed_by (read_fields_to semicolon (suc n) rest) (read_fields_to last (suc m)))
        → read_fields_to last (suc (suc (suc (n + m)))) bytes
        ≡ followed_by (read_fields_to semicolon (suc (suc n)) bytes) (read_fields_to last (suc m))
    by_field no_number none further =
        fields_more_none last bytes (suc (n + m)) none
        ∙ sym
        (ap (λ (first : Fields). followed_by first (read_fields_to last (suc m)))
        (fields_more_none semicolon bytes n none))
    by_field (number value rest) here further =
        fields_more last bytes (suc (n + m)) value rest here
        ∙ ap (with_field value) (further rest)
        ∙ sym
        (ap (λ (first : Fields). followed_by first (read_fields_to last (suc m)))
        (fields_more semicolon bytes n value rest here)
        ∙ followed_with value (read_fields_to semicolon (suc n) rest) (read_fields_to last (suc m)))
