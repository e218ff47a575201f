-- A declared struct that is one machine value, as the rules take it: that it is Copy, the laws of a `&` to it, and its kinds as a parameter and as a result.
-- Assumes nothing.
use Prim.Native.Nat.{ℕ}
use seplogic.Ra.Ura.{Ura}
use types.Logic.{Logic}
use denote.Exit.{yes}
use denote.RattleType.{RowLaws}
use denote.Struct.Declared.{Declared, row, fields}
use denote.Struct.Struct.{Plains}
use denote.Struct.Laws as L
use borrow.Fn.Kind.{ParamKind, ResultKind}
use borrow.Kind.Value.{Valued, ValuedLaws, p_val, r_val}
use borrow.Rule.Local.{mem_whole, whole_mem}
use borrow.Table.Copies.{Cp, c_struct, parts_laws}
use borrow.Table.OneValue.{One}
use borrow.Table.Rows.{whole}

module _ (T : Declared) (laws : L.Laws T) (copy : L.Copyables T.parts) where
  abbrev pub copy_of : Cp (row T)
  copy_of = c_struct T laws copy

  abbrev pub laws_of : RowLaws (row T)
  laws_of = parts_laws T (L.copy_row_laws T.parts copy)

  module _ (plain : Plains (fields T)) (one : One (row T)) where
    abbrev valued : Valued
    valued = record {
      ty = row T;
      one = one;
      val = L.val T laws;
      tells = L.tells T laws;
      still = L.still T copy yes;
      row = whole (row T);
      rd = λ x. x;
      mk = λ x. x;
    }

    abbrev lawful : (M : Type 1) (𝓤 : Ura M) (𝓛 : Logic 𝓤) → ValuedLaws 𝓛 valued
    lawful M 𝓤 𝓛 = record {
      copies = L.copy T copy 𝓛;
      lawful = L.lawful T laws 𝓛;
      makes = L.makes T plain 𝓛;
      in_mem = mem_whole 𝓛 (row T);
      of_mem = whole_mem 𝓛 (row T);
    }

    abbrev pub param_of : {n : ℕ} → ParamKind n
    param_of = p_val valued lawful

    abbrev pub result_of : {n : ℕ} → ResultKind n
    result_of = r_val valued lawful
