-- What an accepted certificate says about playing on a surface within its bound.
use Rattle.std.proofs.Common.{◌≡◌, ℕ, ◌+◌, ◌≤◌, ◌⊎◌, List, None, inl, inr, refl, subst, sym, arith}
use Rattle.mapping.specs.PlacingLaws.{IsNoLarger, ShowsFrame}
use Rattle.mapping.specs.Surface.{Surface}
use Rattle.draw_ops.specs.Content.{Content}
use Rattle.meta_headers.specs.Headers.{OpenedValue}
use Rattle.meta_headers.specs.Opening.{HasContentOf}
use Rattle.dc_stack.specs.Drawing.{edge_limit}
use Rattle.dc_stack.specs.MachineState.{MachineState}
use Rattle.dc_stack.specs.Needs.{no_needs}
use Rattle.dc_stack.specs.State.{start_of}
use Rattle.dc_stack.specs.declared.needs.Needs.{Needs}
use Rattle.preflight_cert.specs.After.{file_needs, needs_after}
use Rattle.preflight_cert.specs.Answer.{AnswerLaws, Fits, IsCleared, bound_of}
use Rattle.preflight_cert.specs.CertificateReading.{CertificateValue}
use Rattle.preflight_cert.specs.Drawings.{drawings_of}
use Rattle.preflight_cert.specs.NeedLaws.{HasCapacityFor}
use Rattle.preflight_cert.specs.SizeLaws.{SizeLaws}
use Rattle.preflight_cert.specs.Stop.{stop_of}
use Rattle.preflight_cert.specs.Writes.{writes_after}
use Rattle.player.specs.After.{HasLines, HasCapacityForSteps}

module _ (answers : AnswerLaws) (o : OpenedValue) (records : List ℕ) (c : CertificateValue) (cleared : IsCleared o records c) where
  pub fits : (content : Content) → HasContentOf o.format records content → Fits c o content
  fits content h = (answers.fits content o c).0 (cleared content h)

  -- memory for the certificate's needs is memory for the whole file
  module _ (content : Content) (holds : HasContentOf o.format records content) (m : MachineState) (state : m.state ≡ start_of o) (needs : m.needs ≡ no_needs) where
    pub capacity_for_file : HasCapacityFor c.needs m → HasCapacityForSteps content m
    capacity_for_file capacity =
        let within = (fits content holds).needs in
        let depth = within.depth in let slots = within.slots in let pieces = within.pieces in
        let deep = capacity.depth in let many = capacity.slots in let long = capacity.pieces in
        let enough : HasCapacityFor (file_needs content o) m = record { depth = omega (arith, depth, deep); slots = omega (arith, slots, many); pieces = omega (arith, pieces, long) } in
        let same : needs_after content.steps m.state m.needs ≡ file_needs content o = rw (state, needs) refl in
        subst (λ (n : Needs). HasCapacityFor n m) (sym same) enough

    pub lines_for_file : (count : ℕ) → (edge_limit ≤ count ⊎ c.needs.edges ≤ count) → HasLines count content m
    lines_for_file count lines = elim lines [
      | inl any ↦ inl any
      | inr few ↦
          let within = (fits content holds).needs in
          let edges = within.edges in
          let enough : (file_needs content o).edges ≤ count = omega (arith, edges, few) in inr (rw (state, needs) enough)
    ]

  -- within the bound nothing stops, and at most the certified number of pixels is written
  module _ (sizes : SizeLaws) (s : Surface) (frame : ShowsFrame (bound_of o c)) (smaller : IsNoLarger s (bound_of o c)) where
    pub never_stops : (content : Content) → HasContentOf o.format records content → stop_of content (start_of o) s ≡ None
    never_stops content h = sizes.unstopped content (start_of o) s (bound_of o c) frame smaller (fits content h).unstopped

    pub few_written : (content : Content) → HasContentOf o.format records content → (old new writes : ℕ) → new ≡ old + writes → new ≡ old + writes_after (drawings_of content.steps (start_of o)) s → writes ≤ c.writes
    few_written content h old new writes e count =
        let fitting = fits content h in
        let few = sizes.few (drawings_of content.steps (start_of o)) c.entries s (bound_of o c) frame smaller fitting.covered in
        let budget = fitting.budget in omega (arith, few, budget, count, e)
