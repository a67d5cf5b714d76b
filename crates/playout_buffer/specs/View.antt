-- What contracts see of a playout buffer. This project's own.
use Rattle.std.specs.Prelude.{ℕ, refl}
use Rattle.std.specs.Coded.{Coded, code_by, coded×, coded_ℕ, coded_list}
use Rattle.std.specs.FinMap.{code}
use Rattle.playout_buffer.specs.declared.window.Window.{Window}
use Rattle.playout_buffer.specs.Held.{Payloads}

pub record PlayoutView : Type 0 where
  pub window : Window
  -- the present tick
  pub tick : ℕ
  -- the payloads that are held, by the numbers of their packets
  pub held : Payloads

-- a view as nested pairs
abbrev Pairs : Type 0
Pairs = (((ℕ × ℕ) × (ℕ × ℕ)) × ((ℕ × ℕ) × (ℕ × ℕ))) × ((ℕ × ℕ) × Payloads)

-- by which a proof tells views apart
abbrev pub view_code : Coded PlayoutView
view_code =
    code_by Pairs
    (coded× (coded× (coded× (coded× coded_ℕ coded_ℕ) (coded× coded_ℕ coded_ℕ)) (coded× (coded× coded_ℕ coded_ℕ) (coded× coded_ℕ coded_ℕ)))
    (coded× (coded× coded_ℕ coded_ℕ) (code coded_ℕ (coded_list coded_ℕ))))
    (λ v. ((((v.window.frames, v.window.lmin), (v.window.lmax, v.window.playout)), ((v.window.cap, v.window.p), (v.window.q, v.window.octets))), ((v.window.packets, v.tick), v.held)))
    (λ p. record {
      window = record { frames = p.0.0.0.0; lmin = p.0.0.0.1; lmax = p.0.0.1.0; playout = p.0.0.1.1; cap = p.0.1.0.0; p = p.0.1.0.1; q = p.0.1.1.0; octets = p.0.1.1.1; packets = p.1.0.0 };
      tick = p.1.0.1;
      held = p.1.1;
    })
    (λ _. refl)
