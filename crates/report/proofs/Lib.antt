pub mod HartEnds
