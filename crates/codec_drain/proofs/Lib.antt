mod DrainLaws
