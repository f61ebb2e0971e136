-- The bytes passed are held, and zeros behind them.
use Rattle.std.specs.Int.{w64, from_le_bytes}
use mathlib.Core.Path.{◌≡◌, refl, sym, ap, ◌∙◌, subst}
use mathlib.Core.List.{List, [], ◌∷◌, ◌++◌}
use Prim.Native.Nat.{ℕ, ◌+◌, ◌^◌, ◌<◌}
use native.Mathlib.Numerals.{add-one}
use native.Mathlib.Omega.{arith}
use lib.ListN.{length, get_or, set, take, drop, replicate, length-drop}
use lib.Seq.{take-suc, length-take-le}
use Rattle.std.proofs.lemmas.List.{get_or-drop}
use Rattle.laws.specs.Writing.{written_at}
use Rattle.laws.proofs.Writing.{written_snoc}
use Rattle.little_endian.specs.Numbers.{byte_range, number_at, AllBelow}
use Rattle.little_endian.proofs.NumberLaws.{number_below, all_below_take, all_below_drop}
use Rattle.little_endian.proofs.WrittenLaws.{held_number}
use Rattle.little_endian.proofs.read_fixed.Goals as goal

pub loop-i-init : goal.loop-i-init
loop-i-init g c = refl

-- The next byte stands behind those that are held.
pub loop-i-preserved : goal.loop-i-preserved
loop-i-preserved g c =
    let a = c.args in
    let i = c.loop-i.i in
    let rest = drop a.place a.bytes.now in
    let zeros : List ℕ = replicate 8 0 in
    let byte = get_or a.bytes.now (a.place + i) 0 in
    let inside : i < length rest = omega (arith, length-drop a.place a.bytes.now, c.requires.0) in
    let size : length (take i rest) ≡ i = length-take-le i rest (omega (arith, inside)) in
    let long : 0 + length (take i rest) ≡ i = omega (arith, size) in
    let more : take (i + 1) rest ≡ take i rest ++ (byte ∷ []) =
    rw (add-one, take-suc rest i 0 inside, get_or-drop) refl in
    ap (λ (l : List ℕ). set l i byte) c.loop-i.invariant
    ∙ ap (λ (n : ℕ). set (written_at 0 (take i rest) zeros) n byte) (sym long)
    ∙ written_snoc 0 byte (take i rest) zeros (omega (arith, long, c.requires.1))
    ∙ ap (λ (l : List ℕ). written_at 0 l zeros) (sym more)

pub returns : goal.returns
returns g c =
    let a = c.args in
    let width = g.row.WIDTH in
    let rest = drop a.place a.bytes.now in
    let all : c.loop-i.i ≡ width = omega arith in
    let bytes = take width rest in
    let wide : length bytes ≡ width =
    length-take-le width rest (omega (arith, length-drop a.place a.bytes.now, c.requires.0)) in
    let behind : 0 + length bytes ≡ width = omega (arith, wide) in
    let held : c.loop-i.held ≡ bytes ++ drop width (replicate 8 0) =
    c.loop-i.invariant
    ∙ ap (λ (n : ℕ). written_at 0 (take n rest) (replicate 8 0)) all
    ∙ ap (λ (n : ℕ). bytes ++ drop n (replicate 8 0)) behind in
    let is : c.from_le_bytes.result ≡ number_at width a.place a.bytes.now =
    c.from_le_bytes.ensures
    ∙ ap (from_le_bytes w64) held
    ∙ held_number width bytes wide c.requires.1 in
    let small : AllBelow byte_range a.bytes.now = λ i inside. omega (arith, c.type_inv.bytes i) in
    let below : c.from_le_bytes.result < byte_range ^ length bytes =
    rw is
    (number_below bytes
    (all_below_take width rest
    (omega (arith, length-drop a.place a.bytes.now, c.requires.0))
    (all_below_drop a.place a.bytes.now small))) in
    (is, subst (λ (n : ℕ). c.from_le_bytes.result < byte_range ^ n) wide below)
