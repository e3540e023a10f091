-- Maps that are saved and loaded, as C has them.
use Rattle.std.proofs.Common.{◌≡◌, ◌∙◌, ℕ, List, Option, Result, Ok, Err, inl, inr, refl, ap}
use Rattle.std.specs.Prelude.{IfErr}
use Rattle.std.specs.Result.{IsErrAnd}
use Rattle.lgm_store.specs.Rows.{Rows}
use Rattle.lgm_save.specs.Loaded.{IsNotSaved}
use Rattle.lgm_save.specs.declared.fault.LoadFault.{LoadFault}
use Rattle.lgm_save.specs.declared.fault.LoadFault.TheVariants as loads
use Rattle.lgm_c.specs.declared.fault.Fault.{Fault}
use Rattle.lgm_c.specs.MapState.{MapState, begun}
use Rattle.lgm_c.specs.Saving.{LoadsOnly, IsOpened}
use Rattle.lgm_c.specs.Status.{unloaded}
use Rattle.lgm_c.specs.inner.Unloading.{IsUnloaded}

-- why bytes are not loaded
pub unloaded_told : {A : Type 0} (chain bytes : List ℕ) (fault : LoadFault) (result : Result A Fault)
    → (fault ≡ loads.NotSaved → IsNotSaved (record { 0 = chain }) bytes) → IsErrAnd result (λ f. f ≡ unloaded fault)
    → IfErr result (IsUnloaded chain bytes)
unloaded_told chain bytes fault (Ok a) not is = tt
unloaded_told chain bytes loads.NotSaved (Err f) not is = inl (is, not refl)
unloaded_told chain bytes loads.NoMemory (Err f) not is = inr is

-- a map is opened with the rows alone that are loaded of its bytes
pub opened_only : (chain : List ℕ) (known : Option (List ℕ)) (bytes : List ℕ) (state : MapState) (rows : Rows) → IsOpened chain known bytes state
    → LoadsOnly (record { 0 = chain }) bytes rows → state ≡ begun chain known rows
opened_only chain known bytes state rows opened only =
    opened.state_is ∙ ap (λ (r : Rows). begun chain known r) (only.same opened.rows opened.loaded)
