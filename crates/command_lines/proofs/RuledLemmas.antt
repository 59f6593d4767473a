-- clap accepts each of the options for the rules after a command's other arguments.
use Rattle.std.proofs.Common.{◌&&◌, ap, ap₂, refl, Bool, [], ◌∷◌, true, codes}
use Rattle.clap.proofs.OnLiterals.{clap_on_literals}
use Rattle.command_lines.specs.CommandLine.{list_app, prepare_app, show_app}
use Rattle.command_lines.specs.RightWords.{exactly, fit, name, ruled_usages, side}
use Rattle.command_lines.proofs.SideLemmas.{side_passes}
use Rattle.command_lines.proofs.UsageLemmas.{Each, IsTaken, OfKinds, UsageIsTaken, core_right, of_usage, print_right, side_given}

-- `show`, with each of the options
show_plain : OfKinds (name ∷ side ∷ side ∷ []) (IsTaken (codes "show"))
unfolding clap_on_literals
show_plain file f wide w high h =
    of_usage (codes "show") show_app.top (name ∷ side ∷ side ∷ []) (file ∷ wide ∷ high ∷ []) (f, (w, (h, tt))) refl
    (λ program passes. ap (λ (b : Bool). b && true) passes) (λ program. refl) (ap₂ (λ (a b : Bool). ((a && true) && true) && ((b && true) && true)) (side_passes wide w) (side_passes high h))
    (refl, (side_given _ (codes "W") wide refl w, (side_given _ (codes "H") high refl h, (tt, (tt, (tt, tt)))))) (core_right _ refl refl refl)

show_core : OfKinds (name ∷ side ∷ side ∷ exactly (codes "--profile") ∷ exactly (codes "core") ∷ []) (IsTaken (codes "show"))
unfolding clap_on_literals
show_core file f wide w high h option1 e1 option2 e2 =
    of_usage (codes "show") show_app.top (name ∷ side ∷ side ∷ exactly (codes "--profile") ∷ exactly (codes "core") ∷ []) (file ∷ wide ∷ high ∷ option1 ∷ option2 ∷ []) (f, (w, (h, (e1, (e2, tt))))) refl
    (λ program passes. ap (λ (b : Bool). b && true) passes) (λ program. refl) (ap₂ (λ (a b : Bool). ((a && true) && (((b && true) && true) && true)) && true) (side_passes wide w) (side_passes high h))
    (refl, (side_given _ (codes "W") wide refl w, (side_given _ (codes "H") high refl h, (tt, (tt, (tt, tt)))))) (core_right _ refl refl refl)

show_print : OfKinds (name ∷ side ∷ side ∷ exactly (codes "--profile") ∷ exactly (codes "print") ∷ []) (IsTaken (codes "show"))
unfolding clap_on_literals
show_print file f wide w high h option1 e1 option2 e2 =
    of_usage (codes "show") show_app.top (name ∷ side ∷ side ∷ exactly (codes "--profile") ∷ exactly (codes "print") ∷ []) (file ∷ wide ∷ high ∷ option1 ∷ option2 ∷ []) (f, (w, (h, (e1, (e2, tt))))) refl
    (λ program passes. ap (λ (b : Bool). b && true) passes) (λ program. refl) (ap₂ (λ (a b : Bool). ((a && true) && (((b && true) && true) && true)) && true) (side_passes wide w) (side_passes high h))
    (refl, (side_given _ (codes "W") wide refl w, (side_given _ (codes "H") high refl h, (tt, (tt, (tt, tt)))))) (print_right _ refl refl refl)

show_held_deletion : OfKinds (name ∷ side ∷ side ∷ exactly (codes "--profile") ∷ exactly (codes "print") ∷ exactly (codes "--allow") ∷ exactly (codes "held-deletion") ∷ []) (IsTaken (codes "show"))
unfolding clap_on_literals
show_held_deletion file f wide w high h option1 e1 option2 e2 option3 e3 option4 e4 =
    of_usage (codes "show") show_app.top (name ∷ side ∷ side ∷ exactly (codes "--profile") ∷ exactly (codes "print") ∷ exactly (codes "--allow") ∷ exactly (codes "held-deletion") ∷ []) (file ∷ wide ∷ high ∷ option1 ∷ option2 ∷ option3 ∷ option4 ∷ []) (f, (w, (h, (e1, (e2, (e3, (e4, tt))))))) refl
    (λ program passes. ap (λ (b : Bool). b && true) passes) (λ program. refl) (ap₂ (λ (a b : Bool). ((a && true) && (((b && true) && true) && true)) && true) (side_passes wide w) (side_passes high h))
    (refl, (side_given _ (codes "W") wide refl w, (side_given _ (codes "H") high refl h, (tt, (tt, (tt, tt)))))) (print_right _ refl refl refl)

show_emf_plus : OfKinds (name ∷ side ∷ side ∷ exactly (codes "--profile") ∷ exactly (codes "print") ∷ exactly (codes "--allow") ∷ exactly (codes "emf-plus") ∷ []) (IsTaken (codes "show"))
unfolding clap_on_literals
show_emf_plus file f wide w high h option1 e1 option2 e2 option3 e3 option4 e4 =
    of_usage (codes "show") show_app.top (name ∷ side ∷ side ∷ exactly (codes "--profile") ∷ exactly (codes "print") ∷ exactly (codes "--allow") ∷ exactly (codes "emf-plus") ∷ []) (file ∷ wide ∷ high ∷ option1 ∷ option2 ∷ option3 ∷ option4 ∷ []) (f, (w, (h, (e1, (e2, (e3, (e4, tt))))))) refl
    (λ program passes. ap (λ (b : Bool). b && true) passes) (λ program. refl) (ap₂ (λ (a b : Bool). ((a && true) && (((b && true) && true) && true)) && true) (side_passes wide w) (side_passes high h))
    (refl, (side_given _ (codes "W") wide refl w, (side_given _ (codes "H") high refl h, (tt, (tt, (tt, tt)))))) (print_right _ refl refl refl)

show_both : OfKinds (name ∷ side ∷ side ∷ exactly (codes "--profile") ∷ exactly (codes "print") ∷ exactly (codes "--allow") ∷ exactly (codes "held-deletion") ∷ exactly (codes "--allow") ∷ exactly (codes "emf-plus") ∷ []) (IsTaken (codes "show"))
unfolding clap_on_literals
show_both file f wide w high h option1 e1 option2 e2 option3 e3 option4 e4 option5 e5 option6 e6 =
    of_usage (codes "show") show_app.top (name ∷ side ∷ side ∷ exactly (codes "--profile") ∷ exactly (codes "print") ∷ exactly (codes "--allow") ∷ exactly (codes "held-deletion") ∷ exactly (codes "--allow") ∷ exactly (codes "emf-plus") ∷ []) (file ∷ wide ∷ high ∷ option1 ∷ option2 ∷ option3 ∷ option4 ∷ option5 ∷ option6 ∷ []) (f, (w, (h, (e1, (e2, (e3, (e4, (e5, (e6, tt))))))))) refl
    (λ program passes. ap (λ (b : Bool). b && true) passes) (λ program. refl) (ap₂ (λ (a b : Bool). ((a && true) && (((b && true) && true) && true)) && true) (side_passes wide w) (side_passes high h))
    (refl, (side_given _ (codes "W") wide refl w, (side_given _ (codes "H") high refl h, (tt, (tt, (tt, tt)))))) (print_right _ refl refl refl)

-- `show` with `--fit`, with each of the options
fit_plain : OfKinds (name ∷ side ∷ side ∷ fit ∷ []) (IsTaken (codes "show"))
unfolding clap_on_literals
fit_plain file f wide w high h word t =
    of_usage (codes "show") show_app.top (name ∷ side ∷ side ∷ fit ∷ []) (file ∷ wide ∷ high ∷ word ∷ []) (f, (w, (h, (t, tt)))) refl
    (λ program passes. ap (λ (b : Bool). b && true) passes) (λ program. refl) (ap₂ (λ (a b : Bool). ((a && true) && ((((b && true) && true) && true) && true)) && true) (side_passes wide w) (side_passes high h))
    (refl, (side_given _ (codes "W") wide refl w, (side_given _ (codes "H") high refl h, (tt, (tt, (tt, tt)))))) (core_right _ refl refl refl)

fit_core : OfKinds (name ∷ side ∷ side ∷ fit ∷ exactly (codes "--profile") ∷ exactly (codes "core") ∷ []) (IsTaken (codes "show"))
unfolding clap_on_literals
fit_core file f wide w high h word t option1 e1 option2 e2 =
    of_usage (codes "show") show_app.top (name ∷ side ∷ side ∷ fit ∷ exactly (codes "--profile") ∷ exactly (codes "core") ∷ []) (file ∷ wide ∷ high ∷ word ∷ option1 ∷ option2 ∷ []) (f, (w, (h, (t, (e1, (e2, tt)))))) refl
    (λ program passes. ap (λ (b : Bool). b && true) passes) (λ program. refl) (ap₂ (λ (a b : Bool). ((a && true) && ((((b && true) && true) && true) && true)) && true) (side_passes wide w) (side_passes high h))
    (refl, (side_given _ (codes "W") wide refl w, (side_given _ (codes "H") high refl h, (tt, (tt, (tt, tt)))))) (core_right _ refl refl refl)

fit_print : OfKinds (name ∷ side ∷ side ∷ fit ∷ exactly (codes "--profile") ∷ exactly (codes "print") ∷ []) (IsTaken (codes "show"))
unfolding clap_on_literals
fit_print file f wide w high h word t option1 e1 option2 e2 =
    of_usage (codes "show") show_app.top (name ∷ side ∷ side ∷ fit ∷ exactly (codes "--profile") ∷ exactly (codes "print") ∷ []) (file ∷ wide ∷ high ∷ word ∷ option1 ∷ option2 ∷ []) (f, (w, (h, (t, (e1, (e2, tt)))))) refl
    (λ program passes. ap (λ (b : Bool). b && true) passes) (λ program. refl) (ap₂ (λ (a b : Bool). ((a && true) && ((((b && true) && true) && true) && true)) && true) (side_passes wide w) (side_passes high h))
    (refl, (side_given _ (codes "W") wide refl w, (side_given _ (codes "H") high refl h, (tt, (tt, (tt, tt)))))) (print_right _ refl refl refl)

fit_held_deletion : OfKinds (name ∷ side ∷ side ∷ fit ∷ exactly (codes "--profile") ∷ exactly (codes "print") ∷ exactly (codes "--allow") ∷ exactly (codes "held-deletion") ∷ []) (IsTaken (codes "show"))
unfolding clap_on_literals
fit_held_deletion file f wide w high h word t option1 e1 option2 e2 option3 e3 option4 e4 =
    of_usage (codes "show") show_app.top (name ∷ side ∷ side ∷ fit ∷ exactly (codes "--profile") ∷ exactly (codes "print") ∷ exactly (codes "--allow") ∷ exactly (codes "held-deletion") ∷ []) (file ∷ wide ∷ high ∷ word ∷ option1 ∷ option2 ∷ option3 ∷ option4 ∷ []) (f, (w, (h, (t, (e1, (e2, (e3, (e4, tt)))))))) refl
    (λ program passes. ap (λ (b : Bool). b && true) passes) (λ program. refl) (ap₂ (λ (a b : Bool). ((a && true) && ((((b && true) && true) && true) && true)) && true) (side_passes wide w) (side_passes high h))
    (refl, (side_given _ (codes "W") wide refl w, (side_given _ (codes "H") high refl h, (tt, (tt, (tt, tt)))))) (print_right _ refl refl refl)

fit_emf_plus : OfKinds (name ∷ side ∷ side ∷ fit ∷ exactly (codes "--profile") ∷ exactly (codes "print") ∷ exactly (codes "--allow") ∷ exactly (codes "emf-plus") ∷ []) (IsTaken (codes "show"))
unfolding clap_on_literals
fit_emf_plus file f wide w high h word t option1 e1 option2 e2 option3 e3 option4 e4 =
    of_usage (codes "show") show_app.top (name ∷ side ∷ side ∷ fit ∷ exactly (codes "--profile") ∷ exactly (codes "print") ∷ exactly (codes "--allow") ∷ exactly (codes "emf-plus") ∷ []) (file ∷ wide ∷ high ∷ word ∷ option1 ∷ option2 ∷ option3 ∷ option4 ∷ []) (f, (w, (h, (t, (e1, (e2, (e3, (e4, tt)))))))) refl
    (λ program passes. ap (λ (b : Bool). b && true) passes) (λ program. refl) (ap₂ (λ (a b : Bool). ((a && true) && ((((b && true) && true) && true) && true)) && true) (side_passes wide w) (side_passes high h))
    (refl, (side_given _ (codes "W") wide refl w, (side_given _ (codes "H") high refl h, (tt, (tt, (tt, tt)))))) (print_right _ refl refl refl)

fit_both : OfKinds (name ∷ side ∷ side ∷ fit ∷ exactly (codes "--profile") ∷ exactly (codes "print") ∷ exactly (codes "--allow") ∷ exactly (codes "held-deletion") ∷ exactly (codes "--allow") ∷ exactly (codes "emf-plus") ∷ []) (IsTaken (codes "show"))
unfolding clap_on_literals
fit_both file f wide w high h word t option1 e1 option2 e2 option3 e3 option4 e4 option5 e5 option6 e6 =
    of_usage (codes "show") show_app.top (name ∷ side ∷ side ∷ fit ∷ exactly (codes "--profile") ∷ exactly (codes "print") ∷ exactly (codes "--allow") ∷ exactly (codes "held-deletion") ∷ exactly (codes "--allow") ∷ exactly (codes "emf-plus") ∷ []) (file ∷ wide ∷ high ∷ word ∷ option1 ∷ option2 ∷ option3 ∷ option4 ∷ option5 ∷ option6 ∷ []) (f, (w, (h, (t, (e1, (e2, (e3, (e4, (e5, (e6, tt)))))))))) refl
    (λ program passes. ap (λ (b : Bool). b && true) passes) (λ program. refl) (ap₂ (λ (a b : Bool). ((a && true) && ((((b && true) && true) && true) && true)) && true) (side_passes wide w) (side_passes high h))
    (refl, (side_given _ (codes "W") wide refl w, (side_given _ (codes "H") high refl h, (tt, (tt, (tt, tt)))))) (print_right _ refl refl refl)

-- `prepare`, with each of the options
prepare_plain : OfKinds (name ∷ side ∷ side ∷ name ∷ []) (IsTaken (codes "prepare"))
unfolding clap_on_literals
prepare_plain file f wide w high h output o =
    of_usage (codes "prepare") prepare_app.top (name ∷ side ∷ side ∷ name ∷ []) (file ∷ wide ∷ high ∷ output ∷ []) (f, (w, (h, (o, tt)))) refl
    (λ program passes. ap (λ (b : Bool). b && true) passes) (λ program. refl) (ap₂ (λ (a b : Bool). ((a && true) && ((b && true) && true)) && true) (side_passes wide w) (side_passes high h))
    (refl, (side_given _ (codes "W") wide refl w, (side_given _ (codes "H") high refl h, (refl, (tt, (tt, tt)))))) (core_right _ refl refl refl)

prepare_core : OfKinds (name ∷ side ∷ side ∷ name ∷ exactly (codes "--profile") ∷ exactly (codes "core") ∷ []) (IsTaken (codes "prepare"))
unfolding clap_on_literals
prepare_core file f wide w high h output o option1 e1 option2 e2 =
    of_usage (codes "prepare") prepare_app.top (name ∷ side ∷ side ∷ name ∷ exactly (codes "--profile") ∷ exactly (codes "core") ∷ []) (file ∷ wide ∷ high ∷ output ∷ option1 ∷ option2 ∷ []) (f, (w, (h, (o, (e1, (e2, tt)))))) refl
    (λ program passes. ap (λ (b : Bool). b && true) passes) (λ program. refl) (ap₂ (λ (a b : Bool). ((a && true) && ((b && true) && true)) && true) (side_passes wide w) (side_passes high h))
    (refl, (side_given _ (codes "W") wide refl w, (side_given _ (codes "H") high refl h, (refl, (tt, (tt, tt)))))) (core_right _ refl refl refl)

prepare_print : OfKinds (name ∷ side ∷ side ∷ name ∷ exactly (codes "--profile") ∷ exactly (codes "print") ∷ []) (IsTaken (codes "prepare"))
unfolding clap_on_literals
prepare_print file f wide w high h output o option1 e1 option2 e2 =
    of_usage (codes "prepare") prepare_app.top (name ∷ side ∷ side ∷ name ∷ exactly (codes "--profile") ∷ exactly (codes "print") ∷ []) (file ∷ wide ∷ high ∷ output ∷ option1 ∷ option2 ∷ []) (f, (w, (h, (o, (e1, (e2, tt)))))) refl
    (λ program passes. ap (λ (b : Bool). b && true) passes) (λ program. refl) (ap₂ (λ (a b : Bool). ((a && true) && ((b && true) && true)) && true) (side_passes wide w) (side_passes high h))
    (refl, (side_given _ (codes "W") wide refl w, (side_given _ (codes "H") high refl h, (refl, (tt, (tt, tt)))))) (print_right _ refl refl refl)

prepare_held_deletion : OfKinds (name ∷ side ∷ side ∷ name ∷ exactly (codes "--profile") ∷ exactly (codes "print") ∷ exactly (codes "--allow") ∷ exactly (codes "held-deletion") ∷ []) (IsTaken (codes "prepare"))
unfolding clap_on_literals
prepare_held_deletion file f wide w high h output o option1 e1 option2 e2 option3 e3 option4 e4 =
    of_usage (codes "prepare") prepare_app.top (name ∷ side ∷ side ∷ name ∷ exactly (codes "--profile") ∷ exactly (codes "print") ∷ exactly (codes "--allow") ∷ exactly (codes "held-deletion") ∷ []) (file ∷ wide ∷ high ∷ output ∷ option1 ∷ option2 ∷ option3 ∷ option4 ∷ []) (f, (w, (h, (o, (e1, (e2, (e3, (e4, tt)))))))) refl
    (λ program passes. ap (λ (b : Bool). b && true) passes) (λ program. refl) (ap₂ (λ (a b : Bool). ((a && true) && ((b && true) && true)) && true) (side_passes wide w) (side_passes high h))
    (refl, (side_given _ (codes "W") wide refl w, (side_given _ (codes "H") high refl h, (refl, (tt, (tt, tt)))))) (print_right _ refl refl refl)

prepare_emf_plus : OfKinds (name ∷ side ∷ side ∷ name ∷ exactly (codes "--profile") ∷ exactly (codes "print") ∷ exactly (codes "--allow") ∷ exactly (codes "emf-plus") ∷ []) (IsTaken (codes "prepare"))
unfolding clap_on_literals
prepare_emf_plus file f wide w high h output o option1 e1 option2 e2 option3 e3 option4 e4 =
    of_usage (codes "prepare") prepare_app.top (name ∷ side ∷ side ∷ name ∷ exactly (codes "--profile") ∷ exactly (codes "print") ∷ exactly (codes "--allow") ∷ exactly (codes "emf-plus") ∷ []) (file ∷ wide ∷ high ∷ output ∷ option1 ∷ option2 ∷ option3 ∷ option4 ∷ []) (f, (w, (h, (o, (e1, (e2, (e3, (e4, tt)))))))) refl
    (λ program passes. ap (λ (b : Bool). b && true) passes) (λ program. refl) (ap₂ (λ (a b : Bool). ((a && true) && ((b && true) && true)) && true) (side_passes wide w) (side_passes high h))
    (refl, (side_given _ (codes "W") wide refl w, (side_given _ (codes "H") high refl h, (refl, (tt, (tt, tt)))))) (print_right _ refl refl refl)

prepare_both : OfKinds (name ∷ side ∷ side ∷ name ∷ exactly (codes "--profile") ∷ exactly (codes "print") ∷ exactly (codes "--allow") ∷ exactly (codes "held-deletion") ∷ exactly (codes "--allow") ∷ exactly (codes "emf-plus") ∷ []) (IsTaken (codes "prepare"))
unfolding clap_on_literals
prepare_both file f wide w high h output o option1 e1 option2 e2 option3 e3 option4 e4 option5 e5 option6 e6 =
    of_usage (codes "prepare") prepare_app.top (name ∷ side ∷ side ∷ name ∷ exactly (codes "--profile") ∷ exactly (codes "print") ∷ exactly (codes "--allow") ∷ exactly (codes "held-deletion") ∷ exactly (codes "--allow") ∷ exactly (codes "emf-plus") ∷ []) (file ∷ wide ∷ high ∷ output ∷ option1 ∷ option2 ∷ option3 ∷ option4 ∷ option5 ∷ option6 ∷ []) (f, (w, (h, (o, (e1, (e2, (e3, (e4, (e5, (e6, tt)))))))))) refl
    (λ program passes. ap (λ (b : Bool). b && true) passes) (λ program. refl) (ap₂ (λ (a b : Bool). ((a && true) && ((b && true) && true)) && true) (side_passes wide w) (side_passes high h))
    (refl, (side_given _ (codes "W") wide refl w, (side_given _ (codes "H") high refl h, (refl, (tt, (tt, tt)))))) (print_right _ refl refl refl)

-- `list`, with each of the options
list_plain : OfKinds (name ∷ []) (IsTaken (codes "list"))
unfolding clap_on_literals
list_plain file f =
    of_usage (codes "list") list_app.top (name ∷ []) (file ∷ []) (f, tt) refl
    (λ program passes. ap (λ (b : Bool). b && true) passes) (λ program. refl) refl
    (refl, (tt, (tt, tt))) (core_right _ refl refl refl)

list_core : OfKinds (name ∷ exactly (codes "--profile") ∷ exactly (codes "core") ∷ []) (IsTaken (codes "list"))
unfolding clap_on_literals
list_core file f option1 e1 option2 e2 =
    of_usage (codes "list") list_app.top (name ∷ exactly (codes "--profile") ∷ exactly (codes "core") ∷ []) (file ∷ option1 ∷ option2 ∷ []) (f, (e1, (e2, tt))) refl
    (λ program passes. ap (λ (b : Bool). b && true) passes) (λ program. refl) refl
    (refl, (tt, (tt, tt))) (core_right _ refl refl refl)

list_print : OfKinds (name ∷ exactly (codes "--profile") ∷ exactly (codes "print") ∷ []) (IsTaken (codes "list"))
unfolding clap_on_literals
list_print file f option1 e1 option2 e2 =
    of_usage (codes "list") list_app.top (name ∷ exactly (codes "--profile") ∷ exactly (codes "print") ∷ []) (file ∷ option1 ∷ option2 ∷ []) (f, (e1, (e2, tt))) refl
    (λ program passes. ap (λ (b : Bool). b && true) passes) (λ program. refl) refl
    (refl, (tt, (tt, tt))) (print_right _ refl refl refl)

list_held_deletion : OfKinds (name ∷ exactly (codes "--profile") ∷ exactly (codes "print") ∷ exactly (codes "--allow") ∷ exactly (codes "held-deletion") ∷ []) (IsTaken (codes "list"))
unfolding clap_on_literals
list_held_deletion file f option1 e1 option2 e2 option3 e3 option4 e4 =
    of_usage (codes "list") list_app.top (name ∷ exactly (codes "--profile") ∷ exactly (codes "print") ∷ exactly (codes "--allow") ∷ exactly (codes "held-deletion") ∷ []) (file ∷ option1 ∷ option2 ∷ option3 ∷ option4 ∷ []) (f, (e1, (e2, (e3, (e4, tt))))) refl
    (λ program passes. ap (λ (b : Bool). b && true) passes) (λ program. refl) refl
    (refl, (tt, (tt, tt))) (print_right _ refl refl refl)

list_emf_plus : OfKinds (name ∷ exactly (codes "--profile") ∷ exactly (codes "print") ∷ exactly (codes "--allow") ∷ exactly (codes "emf-plus") ∷ []) (IsTaken (codes "list"))
unfolding clap_on_literals
list_emf_plus file f option1 e1 option2 e2 option3 e3 option4 e4 =
    of_usage (codes "list") list_app.top (name ∷ exactly (codes "--profile") ∷ exactly (codes "print") ∷ exactly (codes "--allow") ∷ exactly (codes "emf-plus") ∷ []) (file ∷ option1 ∷ option2 ∷ option3 ∷ option4 ∷ []) (f, (e1, (e2, (e3, (e4, tt))))) refl
    (λ program passes. ap (λ (b : Bool). b && true) passes) (λ program. refl) refl
    (refl, (tt, (tt, tt))) (print_right _ refl refl refl)

list_both : OfKinds (name ∷ exactly (codes "--profile") ∷ exactly (codes "print") ∷ exactly (codes "--allow") ∷ exactly (codes "held-deletion") ∷ exactly (codes "--allow") ∷ exactly (codes "emf-plus") ∷ []) (IsTaken (codes "list"))
unfolding clap_on_literals
list_both file f option1 e1 option2 e2 option3 e3 option4 e4 option5 e5 option6 e6 =
    of_usage (codes "list") list_app.top (name ∷ exactly (codes "--profile") ∷ exactly (codes "print") ∷ exactly (codes "--allow") ∷ exactly (codes "held-deletion") ∷ exactly (codes "--allow") ∷ exactly (codes "emf-plus") ∷ []) (file ∷ option1 ∷ option2 ∷ option3 ∷ option4 ∷ option5 ∷ option6 ∷ []) (f, (e1, (e2, (e3, (e4, (e5, (e6, tt))))))) refl
    (λ program passes. ap (λ (b : Bool). b && true) passes) (λ program. refl) refl
    (refl, (tt, (tt, tt))) (print_right _ refl refl refl)

-- every usage with options for the rules is accepted
pub ruled_taken : Each UsageIsTaken ruled_usages
ruled_taken = (show_plain, (show_core, (show_print, (show_held_deletion, (show_emf_plus, (show_both, (fit_plain, (fit_core, (fit_print, (fit_held_deletion, (fit_emf_plus, (fit_both, (prepare_plain, (prepare_core, (prepare_print, (prepare_held_deletion, (prepare_emf_plus, (prepare_both, (list_plain, (list_core, (list_print, (list_held_deletion, (list_emf_plus, (list_both, tt))))))))))))))))))))))))
