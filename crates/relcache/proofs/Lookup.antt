-- The key of a look-up by a loop: the values so far, whether a null came, and the fields that are left.
use Rattle.std.proofs.Common.{◌≡◌, ℕ, ◌+◌, ◌<◌, Bool, true, false, List, [], ◌∷◌, ◌++◌, length, drop, get_or, Option, Some, None, option_map, Result, Ok, Err, refl, sym, ap, ◌∙◌, append_assoc}
use Rattle.std.specs.Option.{option_and_then, ok_or}
use Rattle.std.proofs.lemmas.List.{at_drop_more}
use Rattle.messages.specs.declared.tuple.Column.{Column}
use Rattle.model.specs.declared.value.Value.{Value}
use Rattle.relcache.specs.declared.fault.RelFault.{RelFault}
use Rattle.relcache.specs.declared.fault.RelFault.TheVariants.{BadValue, NullKey}
use Rattle.relcache.specs.declared.mapping.Field.{Field}
use Rattle.relcache.specs.Answer.{IsFaultOf}
use Rattle.relcache.specs.Steps.{each}
use Rattle.relcache.specs.Planning.{field_value, lookup_key}

-- the key of these values and those of the rest
abbrev pub key_from : List Value → Bool → Option (List (Option Value)) → Result (List Value) RelFault
key_from before has_null None = Err BadValue
key_from before true (Some rest) = Err NullKey
key_from before false (Some rest) = ok_or (option_map (λ key. before ++ key) (each (λ value. value) rest)) NullKey

-- the first i fields gave these values
abbrev pub KeySoFar : List Field → List Column → ℕ → List Value → Bool → Type 0
KeySoFar fields tuple i before has_null = lookup_key fields tuple ≡ key_from before has_null (each (field_value tuple) (drop i fields))

-- a further field's value, before the rest
abbrev with_next : Option (Option Value) → Option (List (Option Value)) → Option (List (Option Value))
with_next o rest = option_and_then (λ y. option_map (λ ys. y ∷ ys) rest) o

value_next : (before : List Value) (has_null : Bool) (v : Value) (r : Option (List (Option Value))) → key_from before has_null (with_next (Some (Some v)) r) ≡ key_from (before ++ v ∷ []) has_null r
value_next before has_null v None = refl
value_next before true v (Some rest) = refl
value_next before false v (Some rest) = onto (each (λ value. value) rest)
  where
    onto : (key : Option (List Value)) → ok_or (option_map (λ key. before ++ key) (option_map (λ ys. v ∷ ys) key)) NullKey ≡ ok_or (option_map (λ key. (before ++ v ∷ []) ++ key) key) NullKey
    onto None = refl
    onto (Some key) = ap Ok (sym (append_assoc before (v ∷ []) key))

null_next : (before : List Value) (has_null : Bool) (r : Option (List (Option Value))) → key_from before has_null (with_next (Some None) r) ≡ key_from before true r
null_next before has_null None = refl
null_next before true (Some rest) = refl
null_next before false (Some rest) = refl

some_from_ok : {B : Type 0} (o : Option B) (fault : RelFault) (y : B) → ok_or o fault ≡ Ok y → o ≡ Some y
some_from_ok None fault y e = cc
some_from_ok (Some z) fault y e = cc

none_from_err : {B : Type 0} (o : Option B) (fault e : RelFault) → ok_or o fault ≡ Err e → (o ≡ None) × (fault ≡ e)
none_from_err None fault e h = (refl, cc)
none_from_err (Some z) fault e h = cc

module _ (fields : List Field) (tuple : List Column) where
  -- the next field, opened
  next : (i : ℕ) (before : List Value) (has_null : Bool) (d : Field) → i < length fields → KeySoFar fields tuple i before has_null → lookup_key fields tuple ≡ key_from before has_null (with_next (field_value tuple (get_or fields i d)) (each (field_value tuple) (drop (i + 1) fields)))
  next i before has_null d within so_far =
      so_far
      ∙ ap (key_from before has_null) (at_drop_more (each (field_value tuple)) fields i d within)

  pub KeySoFar-value : (i : ℕ) (before : List Value) (has_null : Bool) (d : Field) (v : Value) → i < length fields → ok_or (field_value tuple (get_or fields i d)) BadValue ≡ Ok (Some v) → KeySoFar fields tuple i before has_null → KeySoFar fields tuple (i + 1) (before ++ v ∷ []) has_null
  KeySoFar-value i before has_null d v within gives so_far =
      next i before has_null d within so_far
      ∙ ap (λ o. key_from before has_null (with_next o (each (field_value tuple) (drop (i + 1) fields)))) (some_from_ok (field_value tuple (get_or fields i d)) BadValue (Some v) gives)
      ∙ value_next before has_null v (each (field_value tuple) (drop (i + 1) fields))

  pub KeySoFar-null : (i : ℕ) (before : List Value) (has_null : Bool) (d : Field) → i < length fields → ok_or (field_value tuple (get_or fields i d)) BadValue ≡ Ok None → KeySoFar fields tuple i before has_null → KeySoFar fields tuple (i + 1) before true
  KeySoFar-null i before has_null d within gives so_far =
      next i before has_null d within so_far
      ∙ ap (λ o. key_from before has_null (with_next o (each (field_value tuple) (drop (i + 1) fields)))) (some_from_ok (field_value tuple (get_or fields i d)) BadValue None gives)
      ∙ null_next before has_null (each (field_value tuple) (drop (i + 1) fields))

  pub KeySoFar-fault : (i : ℕ) (before : List Value) (has_null : Bool) (d : Field) (e : RelFault) → i < length fields → IsFaultOf (ok_or (field_value tuple (get_or fields i d)) BadValue) e → KeySoFar fields tuple i before has_null → IsFaultOf (lookup_key fields tuple) e
  KeySoFar-fault i before has_null d e within refused so_far = λ other.
      let none = none_from_err (field_value tuple (get_or fields i d)) BadValue e (refused other) in
      next i before has_null d within so_far
      ∙ ap (λ o. key_from before has_null (with_next o (each (field_value tuple) (drop (i + 1) fields)))) none.0
      ∙ ap Err none.1
